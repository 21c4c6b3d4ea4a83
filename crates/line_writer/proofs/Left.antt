-- Lines written one after another into a lent list: writing those that are left gives the final list; and their lengths summed up, likewise.
-- Assumes nothing.
use mathlib.Core.Path.{◌≡◌, refl, sym, ap, ◌∙◌}
use Prim.Native.Nat.{ℕ, ◌+◌, ◌≤◌, ◌<◌}
use native.Mathlib.Nat.{add-zero}
use native.Mathlib.Omega.{arith}
use mathlib.Core.List.{List, [], ◌∷◌, ◌++◌}
use lib.ListN.{length}
use lib.Seq.{sets}
use Rattle.parts.specs.Joined.{text_of_lines}
use Rattle.line.specs.declared.Line.{Line}
use Rattle.printing.specs.Put.{Put}
use Rattle.printing.proofs.Puts.{sets_append, put_length}
use Rattle.reading.specs.Written.{signal_line, lines_text}
use Rattle.numerals.specs.Written.{decimal_limit}
use Rattle.books.specs.Book.{placement}
use Rattle.line_writer.specs.Fitting.{AllFewDigits, nothing, also, LinesFit}
use Rattle.reading.proofs.LineLengths.{lines_text_append, both_long}

pub record LinesLeft (old : List ℕ) (first : ℕ) (all : List Line) (out : List ℕ) (at : ℕ) (left : List Line) : Type 0 where
  pub rest : sets out at (lines_text left) ≡ sets old first (lines_text all)
  pub ends : at + length (lines_text left) ≡ first + length (lines_text all)
  pub size : length out ≡ length old
  pub digits : AllFewDigits left
  pub room : first + length (lines_text all) ≤ length old

-- at first all are left
pub all_left : {old : List ℕ} {first : ℕ} {all : List Line} → LinesFit old first all → LinesLeft old first all old first all
all_left f = record { rest = refl; ends = refl; size = refl; digits = f.digits; room = f.room }

-- the numbers of an S line
pub signal_numbers_law : (n s : ℕ) → AllFewDigits (signal_line (placement n s) ∷ []) → (n < decimal_limit) × (s < decimal_limit)
signal_numbers_law n s (also w nothing) = w

-- parts of such lines
first_digits : (xs left : List Line) → AllFewDigits (xs ++ left) → AllFewDigits xs
first_digits [] left a = nothing
first_digits (x ∷ xs) left (also w a) = also w (first_digits xs left a)

rest_digits : (xs left : List Line) → AllFewDigits (xs ++ left) → AllFewDigits left
rest_digits [] left a = a
rest_digits (x ∷ xs) left (also w a) = rest_digits xs left a

module _ {old : List ℕ} {first : ℕ} {all : List Line} {out : List ℕ} {at : ℕ} where
  module _ (xs left : List Line) (l : LinesLeft old first all out at (xs ++ left)) where
    -- there is room for the first of those that are left
    pub first_fit : LinesFit out at xs
    first_fit = record { digits = first_digits xs left l.digits; room = omega (arith, both_long xs left, l.ends, l.size, l.room) }

    -- which are then no longer left
    pub lines_put : {new : List ℕ} {next : ℕ} → Put out at (lines_text xs) new next → LinesLeft old first all new next left
    lines_put {new} {next} p = record {
      rest =
          ap (λ (t : List ℕ). sets t next (lines_text left)) p.now_there ∙ ap (λ (n : ℕ). sets (sets out at (lines_text xs)) n (lines_text left)) p.now_at ∙
          sets_append out at (lines_text xs) (lines_text left) ∙ ap (sets out at) (sym (lines_text_append xs left)) ∙ l.rest;
      ends = omega (arith, both_long xs left, l.ends, p.now_at);
      size = put_length p ∙ l.size;
      digits = rest_digits xs left l.digits;
      room = l.room;
    }

  -- in the end none is left, and all are written
  pub none_left : LinesLeft old first all out at [] → Put old first (lines_text all) out at
  unfolding text_of_lines
  none_left l = record { now_there = l.rest; now_at = sym (add-zero at) ∙ l.ends }

-- ---- a sum of lengths: with that of the lines that are left it is that of all
pub record LengthSoFar (all : List Line) (sum : ℕ) (left : List Line) : Type 0 where
  pub whole : sum + length (lines_text left) ≡ length (lines_text all)

module _ {all : List Line} {sum : ℕ} where
  pub one_summed : (l : Line) (left : List Line) → LengthSoFar all sum (l ∷ left) → {n : ℕ} → n ≡ length (lines_text (l ∷ [])) → LengthSoFar all (sum + n) left
  one_summed l left s e =
      record { whole = omega (arith, s.whole, e, both_long (l ∷ []) left) }

  pub all_summed : LengthSoFar all sum [] → sum ≡ length (lines_text all)
  unfolding text_of_lines
  all_summed s = sym (add-zero sum) ∙ s.whole
