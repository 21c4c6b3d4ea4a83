-- The place of a signal in the table, and the columns by which the code finds it, its bits and its last start: numbers go by the
-- hundred, a hundred for each table of the standard. Assumes nothing.
use Rattle.std.specs.Prelude.{◌≡◌, Option, Some, None, cond, List, [], ◌∷◌, ℕ, suc, ◌*◌, ◌/◌, ◌<◌, eqb}
use Rattle.rows.specs.declared.Row.{Row}
use Rattle.rows.specs.Rows.{rows}
use Rattle.rows.specs.Widths.{widths_of, last_starts_of}

-- the place of the first row of a table that has the number n, and how many rows there are if none has it
abbrev pub place_in : ℕ → List Row → ℕ
place_in n [] = 0
place_in n (r ∷ rs) = cond (eqb r.number n) 0 (suc (place_in n rs))

-- the place of the signal with the number n
unfoldable pub place_of : ℕ → ℕ
place_of n = place_in n rows

-- how many places there are; as a place it is that of no signal
abbrev pub no_place_spec : ℕ
no_place_spec = 199

-- the places of the checksum, 503, and of the counter, 504
abbrev pub checksum_place : ℕ
checksum_place = 49

abbrev pub counter_place : ℕ
counter_place = 50

-- what is found by the number n: the place of that signal, or nothing where the catalogue has no such signal
abbrev pub Placed : ℕ → Option ℕ → Type 0
Placed n (Some p) = (p ≡ place_of n) × (p < no_place_spec)
Placed n None = place_of n ≡ no_place_spec

-- all numbers are below
abbrev pub number_limit : ℕ
number_limit = 2000

-- the hundred of a number, one for each of 1 to 100, 101 to 200 and so on
abbrev pub hundred : ℕ → ℕ
hundred n = n * 5242 / 524288

-- for each hundred from 1 to 100 on, what the numbers of its signals have more than their places, and the place where they end
abbrev pub surpluses : List ℕ
surpluses = 0 ∷ 101 ∷ 201 ∷ 291 ∷ 362 ∷ 454 ∷ 539 ∷ 634 ∷ 724 ∷ 816 ∷ 909 ∷ 1006 ∷ 1101 ∷ 1175 ∷ 1268 ∷ 1368 ∷ 1462 ∷ 1556 ∷ 1643 ∷ 1729 ∷ []

abbrev pub bounds : List ℕ
bounds = 0 ∷ 0 ∷ 10 ∷ 39 ∷ 47 ∷ 62 ∷ 67 ∷ 77 ∷ 85 ∷ 92 ∷ 95 ∷ 100 ∷ 126 ∷ 133 ∷ 133 ∷ 139 ∷ 145 ∷ 158 ∷ 172 ∷ 199 ∷ []

-- the columns by which a signal's place and bits are found, lent: these are the table's
pub record TableColumns (above ends widths : List ℕ) : Type 0 where
  pub places : (above ≡ surpluses) × (ends ≡ bounds)
  pub bits : widths ≡ widths_of rows

-- those by which its place and its last start are found
pub record StartColumns (above ends lastStarts : List ℕ) : Type 0 where
  pub places : (above ≡ surpluses) × (ends ≡ bounds)
  pub lasts : lastStarts ≡ last_starts_of rows
