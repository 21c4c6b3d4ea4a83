-- Looking a signal up by its number. Assumes nothing.
use Rattle.std.specs.Prelude.{◌≡◌, cond, List, [], ◌∷◌, ℕ, ◌<◌, eqb, length, get_or}
use Rattle.std.proofs.Math.Option.{Option, none, some}
use Rattle.rows.specs.declared.Row.{Row}
use Rattle.rows.specs.Rows.{rows, blank}

-- the first row of a table that has the number n, if one has it
abbrev pub row_in : ℕ → List Row → Option Row
row_in n [] = none
row_in n (r ∷ rs) = cond (eqb r.number n) (some r) (row_in n rs)

-- the row of the signal with the number n, if the catalogue has that signal
unfoldable pub row_of : ℕ → Option Row
row_of n = row_in n rows

abbrev pub bits_in_spec : Option Row → ℕ
bits_in_spec none = 0
bits_in_spec (some r) = r.bits

-- the bits of the signal with the number n; 0 where the catalogue has no such signal
unfoldable pub bits_of_spec : ℕ → ℕ
bits_of_spec n = bits_in_spec (row_of n)

-- a row of the catalogue has the number n
abbrev pub HasRow : ℕ → Type 0
HasRow n = (i : ℕ) × ((i < length rows) × ((get_or rows i blank).number ≡ n))
