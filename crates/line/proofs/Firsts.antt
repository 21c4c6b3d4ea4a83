-- The line that begins at a place is the first of the text's lines from there on, and the lines from the next place on are the others.
-- Assumes nothing.
use mathlib.Core.Path.{◌≡◌, refl, sym, ap, ◌∙◌}
use mathlib.Core.Bool.{Bool, true, false, cond}
use mathlib.Core.List.{List, ◌∷◌}
use Prim.Native.Nat.{ℕ, ◌+◌, ◌≤◌, ◌<◌}
use native.Mathlib.Nat.{add-zero}
use native.Mathlib.Omega.{arith}
use lib.Dec.{ltb}
use lib.ListN.{length, take, drop, length-drop, drop_of_length-le}
use lib.Seq.{drop-drop}
use borrow.Author.Tests.{lt-ltb, le-ltb, ltb-true, ltb-false}
use Rattle.parts.specs.Parts.{index_of, ended, unended, lines}
use Rattle.parts.proofs.LineEnds.{lines_none, lines_more, lines_last}
use Rattle.parts.proofs.Seek.{index_of_le}
use Rattle.line.specs.declared.Line.TheVariants.{IllFormed}
use Rattle.line.specs.declared.ReadLine.{ReadLine}
use Rattle.line.specs.Meaning.{line_meaning, meaning_of}
use Rattle.line.specs.LineAt.{read_line, first_line, line_at, PassesLine}
use Rattle.line.specs.First.{ill_formed_spec}

module _ (text : List ℕ) (at : ℕ) where
  pub passes_line : at < length text → PassesLine text at (line_at text at)
  unfolding line_at first_line meaning_of
  passes_line h = by (ltb k (length rest)) refl
    where
      rest : List ℕ
      rest = drop at text

      k : ℕ
      k = index_of 10 rest

      left : length rest + at ≡ length text
      left = omega (arith, length-drop at text)

      first : Bool → ReadLine
      first q = cond q (read_line (line_meaning (take k rest)) (k + 1)) (read_line IllFormed (length rest))

      by : (q : Bool) → ltb k (length rest) ≡ q → PassesLine text at (read_line (first q).line (at + (first q).next))
      by true q =
          let s : k < length rest = ltb-true _ _ q in
          record {
            first = ended (take k rest);
            parted = lines_more rest refl s ∙ ap (λ (l : List ℕ). ended (take k rest) ∷ lines l) (drop-drop (k + 1) at text);
            says = refl;
            further = omega arith;
            within = omega (arith, left);
          }
      by false q =
          let s : length rest ≤ k = ltb-false _ _ q in
          record {
            first = unended rest;
            parted = lines_last rest refl s (omega (arith, left)) ∙ ap (◌∷◌ (unended rest)) (sym (lines_none text (at + length rest) (omega (arith, left))));
            says = refl;
            further = omega (arith, left);
            within = omega (arith, left);
          }

  -- at the text's end or past it nothing is left
  pub no_line : length text ≤ at → read_line IllFormed at ≡ line_at text at
  unfolding line_at first_line index_of
  no_line h = rw (drop_of_length-le text h, add-zero at)

  -- the first line of what is left
  module _ {rest : List ℕ} (r : rest ≡ drop at text) (f : ReadLine) (e : f ≡ first_line rest) where
    pub first_left : read_line f.line (at + f.next) ≡ line_at text at
    unfolding line_at
    first_left = rw (e, r)

    pub fits : at < length text → at + f.next ≤ length text
    fits h = omega (arith, (passes_line h).within, ap (λ (l : ReadLine). l.next) first_left)

-- an ill-formed first line, by where its newline stands
module _ (text : List ℕ) {k : ℕ} (e : k ≡ index_of 10 text) where
  pub ill_ended : k < length text → read_line IllFormed (k + 1) ≡ ill_formed_spec text
  unfolding first_line
  ill_ended h = rw (e, lt-ltb (index_of 10 text) (length text) (rw e at h))

  pub ill_unended : length text ≤ k → read_line IllFormed k ≡ ill_formed_spec text
  unfolding first_line
  ill_unended h =
      let z : k ≡ length text = omega (arith, e, index_of_le 10 text) in
      rw (le-ltb (index_of 10 text) (length text) (rw e at h), z)
