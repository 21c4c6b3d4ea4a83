-- A text's first line is ill formed, or the text starts with the text of that line and a newline. Assumes nothing.
use mathlib.Core.Path.{◌≡◌, refl, ap, ◌∙◌}
use mathlib.Core.Logic.{◌⊎◌, inl, inr}
use mathlib.Core.Bool.{Bool, true, false, cond}
use mathlib.Core.List.{List, ◌∷◌, ◌++◌}
use Prim.Native.Nat.{ℕ, suc, ◌+◌, ◌<◌}
use native.Mathlib.Omega.{arith}
use lib.Dec.{ltb}
use lib.ListN.{length, take, drop, length-append}
use lib.Seq.{split_at, take-append_seam}
use borrow.Author.Tests.{lt-ltb, ltb-true}
use Rattle.parts.specs.Parts.{index_of}
use Rattle.parts.proofs.Seek.{index_at}
use Rattle.parts.proofs.Joins.{index_after}
use Rattle.line.specs.declared.Line.{Line}
use Rattle.line.specs.declared.Line.TheVariants.{IllFormed}
use Rattle.line.specs.Meaning.{line_meaning}
use Rattle.line.specs.Written.{line_text, Writable, Canonical}
use Rattle.line.specs.declared.ReadLine.{ReadLine}
use Rattle.line.specs.LineAt.{read_line, first_line}
use Rattle.line.specs.First.{ill_formed_spec}
use Rattle.line.proofs.ReadBack.{read_back, text_free}
use Rattle.line.proofs.Canonical.{canonical}

pub record Starts (text : List ℕ) (l : Line) (rest : List ℕ) : Type 0 where
  pub writable : Writable l
  pub same : text ≡ line_text l ++ 10 ∷ rest

pub starts_first : (text : List ℕ) (l : Line) (rest : List ℕ) → Starts text l rest → first_line text ≡ read_line l (length (line_text l) + 1)
unfolding first_line
starts_first text l rest s =
    let h : length (line_text l) < length (line_text l ++ 10 ∷ rest) = simp length-append (omega arith) in
    rw
    (s.same, index_after 10 (line_text l) rest (text_free l), lt-ltb _ _ h, take-append_seam (line_text l) (10 ∷ rest), read_back l s.writable)

pub record Started (text : List ℕ) : Type 0 where
  pub line : Line
  pub rest : List ℕ
  pub starts : Starts text line rest

pub first_starts : (text : List ℕ) → (ill_formed_spec text ≡ first_line text) ⊎ Started text
unfolding first_line
first_starts text = by (ltb (index_of 10 text) (length text)) refl
  where
    of_line : (p : List ℕ) → text ≡ p ++ 10 ∷ drop (suc (index_of 10 text)) text → (line_meaning p ≡ IllFormed) ⊎ Canonical p (line_meaning p)
        → (◌≡◌ {A = ReadLine} (read_line IllFormed (index_of 10 text + 1)) (read_line (line_meaning p) (index_of 10 text + 1))) ⊎ Started text
    of_line p e (inl i) = inl (rw i)
    of_line p e (inr c) =
        inr
        (record {
          line = line_meaning p;
          rest = drop (suc (index_of 10 text)) text;
          starts = record { writable = c.writable; same = e ∙ ap (λ (l : List ℕ). l ++ 10 ∷ drop (suc (index_of 10 text)) text) c.text };
        })

    first : Bool → ReadLine
    first q = cond q (read_line (line_meaning (take (index_of 10 text) text)) (index_of 10 text + 1)) (read_line IllFormed (length text))

    by : (q : Bool) → ltb (index_of 10 text) (length text) ≡ q → (read_line IllFormed (first q).next ≡ first q) ⊎ Started text
    by true q =
        let h : index_of 10 text < length text = ltb-true _ _ q in
        of_line (take (index_of 10 text) text) (split_at text (index_of 10 text) 0 h ∙ rw (index_at 10 text h)) (canonical (take (index_of 10 text) text))
    by false q = inl refl
