-- A text is its whole lines, each with its newline, and the unfinished line after them. Assumes nothing.
use mathlib.Core.Path.{◌≡◌, refl, ap, ◌∙◌}
use mathlib.Core.Bool.{Bool, true, false}
use mathlib.Core.List.{List, [], ◌∷◌, ◌++◌, append_assoc, append-nil, map}
use Prim.Native.Nat.{ℕ}
use lib.Dec.{eqb}
use borrow.Author.Tests.{eqb-true, eqb-false}
use Rattle.parts.specs.Parts.{TextLine, ended, newline, split, lines_of, lines}
use Rattle.parts.specs.Joined.{text_of_lines, Lacks, none, more, AllLack, no_part, part}
use Rattle.parts.proofs.Joins.{split_free}
use Rattle.parts.proofs.LineEnds.{lines_cons}
use Rattle.listing.specs.Together.{ended_lines, unended_line, whole_lines, unfinished}

-- lines with their newlines, and bytes after them, none of them a newline
pub record InLines (text : List ℕ) : Type 0 where
  pub whole : List (List ℕ)
  pub rest : List ℕ
  pub frees : AllLack newline whole
  pub free : Lacks newline rest
  pub same : text ≡ text_of_lines whole ++ rest

-- one byte more before it
before : (b : ℕ) → (b ≡ newline → ⊥) → {t : List ℕ} (ls : List (List ℕ)) (rest : List ℕ) → AllLack newline ls → Lacks newline rest → t ≡ text_of_lines ls ++ rest → InLines (b ∷ t)
unfolding text_of_lines
before b h [] rest no_part f e = record { whole = []; rest = b ∷ rest; frees = no_part; free = more h f; same = ap (◌∷◌ b) e }
before b h (l ∷ ls) rest (part p ps) f e = record { whole = (b ∷ l) ∷ ls; rest = rest; frees = part (more h p) ps; free = f; same = ap (◌∷◌ b) e }

pub in_lines : (text : List ℕ) → InLines text
unfolding text_of_lines
in_lines [] = record { whole = []; rest = []; frees = no_part; free = none; same = refl }
in_lines (b ∷ t) = go (eqb b newline) refl (in_lines t)
  where
    go : (q : Bool) → eqb b newline ≡ q → InLines t → InLines (b ∷ t)
    go true e x =
        record {
          whole = [] ∷ x.whole;
          rest = x.rest;
          frees = part none x.frees;
          free = x.free;
          same = ap (λ (n : ℕ). n ∷ t) (eqb-true b newline e) ∙ ap (◌∷◌ newline) x.same;
        }
    go false e x = before b (eqb-false b newline e) x.whole x.rest x.frees x.free x.same

-- the lines of such a text
pub lines_after : {ls : List (List ℕ)} → AllLack newline ls → (rest : List ℕ) → lines (text_of_lines ls ++ rest) ≡ map ended ls ++ lines rest
unfolding text_of_lines
lines_after no_part rest = refl
lines_after (part {p} {ps} f fs) rest =
    ap lines (append_assoc p (newline ∷ text_of_lines ps) rest) ∙ lines_cons p (text_of_lines ps ++ rest) f ∙ ap (◌∷◌ (ended p)) (lines_after fs rest)

ended_after : (ls : List (List ℕ)) (after : List TextLine) → ended_lines (map ended ls ++ after) ≡ ls ++ ended_lines after
unfolding ended_lines
ended_after [] after = refl
ended_after (l ∷ ls) after = ap (◌∷◌ l) (ended_after ls after)

unended_after : (ls : List (List ℕ)) (after : List TextLine) → unended_line (map ended ls ++ after) ≡ unended_line after
unfolding unended_line
unended_after [] after = refl
unended_after (l ∷ ls) after = unended_after ls after

-- whole lines before any text are its first whole lines, and change nothing of its last
pub whole_after : {ls : List (List ℕ)} → AllLack newline ls → (rest : List ℕ) → whole_lines (text_of_lines ls ++ rest) ≡ ls ++ whole_lines rest
whole_after {ls} fs rest = ap ended_lines (lines_after fs rest) ∙ ended_after ls (lines rest)

pub unfinished_after : {ls : List (List ℕ)} → AllLack newline ls → (rest : List ℕ) → unfinished (text_of_lines ls ++ rest) ≡ unfinished rest
unfinished_after {ls} fs rest = ap unended_line (lines_after fs rest) ∙ unended_after ls (lines rest)

-- bytes without a newline
pub none_whole : (rest : List ℕ) → Lacks newline rest → whole_lines rest ≡ []
unfolding lines lines_of split ended_lines
none_whole [] f = refl
none_whole (b ∷ t) f = rw (split_free newline (b ∷ t) f)

pub all_unfinished : (rest : List ℕ) → Lacks newline rest → unfinished rest ≡ rest
unfolding lines lines_of split unended_line
all_unfinished [] f = refl
all_unfinished (b ∷ t) f = rw (split_free newline (b ∷ t) f)

-- a text is its whole lines, each with its newline, and the bytes after the last
module _ (text : List ℕ) where
  whole_is : whole_lines text ≡ (in_lines text).whole
  whole_is =
      let x = in_lines text in
      ap whole_lines x.same ∙ whole_after x.frees x.rest ∙ ap (λ (ls : List (List ℕ)). x.whole ++ ls) (none_whole x.rest x.free) ∙ append-nil x.whole

  rest_is : unfinished text ≡ (in_lines text).rest
  rest_is = let x = in_lines text in ap unfinished x.same ∙ unfinished_after x.frees x.rest ∙ all_unfinished x.rest x.free

  pub text_is : text ≡ text_of_lines (whole_lines text) ++ unfinished text
  text_is = rw (whole_is, rest_is) (in_lines text).same

  pub lines_free : AllLack newline (whole_lines text)
  lines_free = rw whole_is (in_lines text).frees

  pub rest_free : Lacks newline (unfinished text)
  rest_free = rw rest_is (in_lines text).free

  -- and where it has no whole line, it is those bytes
  pub none_ended : whole_lines text ≡ [] → text ≡ unfinished text
  unfolding text_of_lines
  none_ended h = text_is ∙ ap (λ (ls : List (List ℕ)). text_of_lines ls ++ unfinished text) h
