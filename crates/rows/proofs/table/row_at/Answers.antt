-- `rows::table::row_at` meets its contract: the columns are those of the list of rows.
-- Assumes nothing.
-- ---- a list of rows, put together again from its columns
use mathlib.Core.Path.{◌≡◌, refl, ap, ◌∙◌}
use mathlib.Core.List.{List, [], ◌∷◌, map}
use Prim.Native.Nat.{ℕ, zero, suc, ◌<◌}
use native.Mathlib.Nat.{le_of_suc-le-suc, not-suc-le-zero}
use lib.ListN.{length, get_or}
use lib.IntN.{ℤ, pos}
use mir.Syntax.{w32}
use mir.Val.{to_z, of_z}
use mir.ValLaws.{to_z-of_z}
use Rattle.rows.specs.declared.Mark.{Mark}
use Rattle.rows.specs.declared.MarkKind.{MarkKind}
use Rattle.rows.specs.declared.MarkKind.TheVariants.{Unmarked, Invalid, Absent, Error, Reserved}
use Rattle.rows.specs.declared.Row.{Row}
use Rattle.rows.specs.Kinds.{kind_number, kind_numbered}
use Rattle.rows.specs.Rows.{rows, row, mark, blank}
use Rattle.rows.proofs.table.row_at.Goals as goal

abbrev numbers : (Row → ℕ) → List Row → ℕ → ℕ
numbers f rs i = get_or (map f rs) i 0

abbrev offset_at : List Row → ℕ → ℤ
offset_at rs i = get_or (map (λ (r : Row). r.offset) rs) i (pos 0)

-- the kind that a column has at a place, by its number, and the mark with its two other columns

abbrev kind_at : (Row → Mark) → List Row → ℕ → MarkKind
kind_at f rs i = kind_numbered (numbers (λ (r : Row). kind_number (f r).kind) rs i)

abbrev mark-at : (Row → Mark) → MarkKind → List Row → ℕ → ℕ → Mark
mark-at f kind rs i empty = mark kind (get_or (map (λ (r : Row). (f r).first) rs) i empty) (numbers (λ (r : Row). (f r).last) rs i)

-- the row that the columns have at a place, with an offset, bits and kinds

abbrev with_cells : List Row → ℕ → ℕ → ℤ → ℕ → MarkKind → MarkKind → MarkKind → Row
with_cells rs i empty o bits kind1 kind2 kind3 =
    row (numbers (λ (r : Row). r.number) rs i) bits (numbers (λ (r : Row). r.resolution) rs i) o
    (numbers (λ (r : Row). r.lowest) rs i) (numbers (λ (r : Row). r.highest) rs i)
    (mark-at (λ (r : Row). r.mark1) kind1 rs i empty) (mark-at (λ (r : Row). r.mark2) kind2 rs i empty) (mark-at (λ (r : Row). r.mark3) kind3 rs i empty)

abbrev from_columns : List Row → ℕ → ℕ → ℤ → Row
from_columns rs i empty o =
    with_cells rs i empty o (numbers (λ (r : Row). r.bits) rs i)
    (kind_at (λ (r : Row). r.mark1) rs i) (kind_at (λ (r : Row). r.mark2) rs i) (kind_at (λ (r : Row). r.mark3) rs i)

numbered : (k : MarkKind) → kind_numbered (kind_number k) ≡ k
numbered Unmarked = refl
numbered Invalid = refl
numbered Absent = refl
numbered Error = refl
numbered Reserved = refl

-- a row, with the kinds of its marks by their numbers
same_row : (r : Row) → from_columns (r ∷ []) 0 1 r.offset ≡ r
same_row r =
    λ i. record {
      number = r.number;
      bits = r.bits;
      resolution = r.resolution;
      offset = r.offset;
      lowest = r.lowest;
      highest = r.highest;
      mark1 = record { kind = numbered r.mark1.kind i; first = r.mark1.first; last = r.mark1.last };
      mark2 = record { kind = numbered r.mark2.kind i; first = r.mark2.first; last = r.mark2.last };
      mark3 = record { kind = numbered r.mark3.kind i; first = r.mark3.first; last = r.mark3.last };
    }

whole : (rs : List Row) (i : ℕ) → from_columns rs i 1 (offset_at rs i) ≡ get_or rs i blank
whole [] i = refl
whole (r ∷ rs) zero = same_row r
whole (r ∷ rs) (suc i) = whole rs i

inside : (rs : List Row) (i : ℕ) (o : ℤ) → i < length rs → from_columns rs i 0 o ≡ from_columns rs i 1 o
inside [] i o h = absurd (not-suc-le-zero h)
inside (r ∷ rs) zero o h = refl
inside (r ∷ rs) (suc i) o h = inside rs i o (le_of_suc-le-suc h)

pub returns : goal.returns
unfolding rows
returns c =
    let i = c.args.place in
    (λ j. with_cells rows i 0 (to_z w32 (of_z w32 (offset_at rows i))) (c.from.ensures j) (c.kind_of.ensures j) (c.kind_of-2.ensures j) (c.kind_of-3.ensures j))
    ∙ inside rows i (to_z w32 (of_z w32 (offset_at rows i))) c.requires
    ∙ ap (from_columns rows i 1) (to_z-of_z w32 _ (record { sfits = c.result-6-1.given }))
    ∙ whole rows i
