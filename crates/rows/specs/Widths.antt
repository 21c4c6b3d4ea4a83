-- The bits of each row as a column of the table, and the last starts that follow from them. Assumes nothing.
use Rattle.std.specs.Prelude.{List, map, ℕ, ◌-◌}
use Rattle.rows.specs.declared.Row.{Row}

abbrev pub widths_of : List Row → List ℕ
widths_of rs = map (λ (r : Row). r.bits) rs

-- the last start that a signal of so many bits may have in a frame of 64
abbrev pub last_starts_of : List Row → List ℕ
last_starts_of rs = map (λ (r : Row). 64 - r.bits) rs
