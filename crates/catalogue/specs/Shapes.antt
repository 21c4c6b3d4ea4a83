-- The rows by their shapes: many signals differ in the number alone. This serves the code, which finds a signal's shape
-- and works on that without building the table; proofs/Shaped.antt shows that shapes and signals (specs/Signals.antt) are the table.
-- Assumes nothing.
use Rattle.std.specs.Prelude.{cond, List, [], ◌∷◌, ℕ, eqb}
use Rattle.std.proofs.Math.Option.{Option, none, some}
use Rattle.rows.specs.declared.Row.{Row}
use Rattle.rows.specs.Rows.{plus, minus, invalid, absent, error, reserved, unmarked, row}
use Rattle.catalogue.specs.Find.{row_in}
use Rattle.catalogue.specs.Signals.{signals}

-- the shapes: rows whose number is the shape's. A number that no row has is free
abbrev pub shapes : List Row
shapes =
    row 0 16 100 (plus 0) 0 65535 (invalid 65535 65535) unmarked unmarked  -- as 201
    ∷ row 1 16 100 (minus 2000000) 0 65535 (invalid 65535 65535) unmarked unmarked  -- as 203
    ∷ row 2 8 400 (plus 0) 0 250 (invalid 255 255) unmarked unmarked  -- as 204
    ∷ row 3 2 1000 (plus 0) 0 3 unmarked unmarked unmarked  -- as 206
    ∷ row 4 16 1000 (plus 0) 0 60000 (invalid 65535 65535) unmarked unmarked  -- as 207
    ∷ row 5 2 1000 (plus 0) 0 3 (reserved 0 0) (invalid 3 3) unmarked  -- as 301
    ∷ row 6 1 1000 (plus 0) 0 1 unmarked unmarked unmarked  -- as 310
    ∷ row 7 32 1000 (plus 0) 0 4294967295 unmarked unmarked unmarked  -- as 401
    ∷ row 8 16 100 (plus 0) 0 65535 unmarked unmarked unmarked  -- as 403
    ∷ row 9 2 1000 (plus 0) 0 3 (reserved 0 0) unmarked unmarked  -- as 501
    ∷ row 10 2 1000 (plus 0) 0 3 (reserved 2 3) unmarked unmarked  -- as 502
    ∷ row 11 4 1000 (plus 0) 0 15 unmarked unmarked unmarked  -- as 503
    ∷ row 12 8 1000 (minus 40000) 0 250 (absent 253 253) (invalid 255 255) unmarked  -- as 505
    ∷ row 13 16 1000 (plus 0) 0 65535 (invalid 65535 65535) unmarked unmarked  -- as 513
    ∷ row 14 8 1000 (plus 0) 1 255 unmarked unmarked unmarked  -- as 601
    ∷ row 15 16 1 (plus 0) 0 65535 (invalid 65535 65535) unmarked unmarked  -- as 603
    ∷ row 17 8 100 (plus 0) 0 50 unmarked unmarked unmarked  -- as 707
    ∷ row 18 16 1 (plus 0) 0 65535 unmarked unmarked unmarked  -- as 710
    ∷ row 19 8 1000 (minus 40000) 0 250 (invalid 255 255) unmarked unmarked  -- as 803
    ∷ row 20 16 1000 (plus 0) 1 65535 unmarked unmarked unmarked  -- as 1002
    ∷ row 21 4 1000 (plus 0) 0 15 (reserved 10 13) (reserved 15 15) unmarked  -- as 1105
    ∷ row 22 8 1000 (plus 0) 0 255 unmarked unmarked unmarked  -- as 1201
    ∷ row 23 8 1000 (plus 0) 0 254 (invalid 255 255) unmarked unmarked  -- as 1301
    ∷ row 24 8 1000 (plus 1985000) 0 250 unmarked unmarked unmarked  -- as 1305
    ∷ row 25 8 250 (plus 0) 0 48 unmarked unmarked unmarked  -- as 1306
    ∷ row 26 8 250 (plus 0) 0 124 unmarked unmarked unmarked  -- as 1307
    ∷ row 27 2 1000 (plus 0) 0 3 (reserved 2 2) (invalid 3 3) unmarked  -- as 1603
    ∷ row 28 3 1000 (plus 0) 0 7 (invalid 2 7) unmarked unmarked  -- as 1705
    ∷ row 29 3 1000 (plus 0) 0 7 (reserved 4 7) unmarked unmarked  -- as 1707
    ∷ row 30 8 1000 (minus 40000) 0 250 (absent 253 253) (error 254 254) (invalid 255 255)  -- as 1710
    ∷ row 31 2 1000 (plus 0) 0 3 (invalid 2 3) unmarked unmarked  -- as 1802
    ∷ row 32 16 1000 (plus 0) 0 1000 (invalid 65535 65535) unmarked unmarked  -- as 1806
    ∷ row 33 2 1000 (plus 0) 0 3 (error 2 2) (invalid 3 3) unmarked  -- as 1807
    ∷ row 34 16 100 (plus 0) 0 10000 unmarked unmarked unmarked  -- as 1812
    ∷ row 35 6 1000 (plus 0) 0 63 unmarked unmarked unmarked  -- as 1813
    ∷ row 36 5 1000 (plus 0) 0 31 unmarked unmarked unmarked  -- as 1923
    ∷ []

-- the shape of no signal
abbrev pub no_shape : ℕ
no_shape = 37

abbrev pub shape_in : ℕ → List (ℕ × ℕ) → ℕ
shape_in n [] = no_shape
shape_in n (p ∷ ps) = cond (eqb p.0 n) p.1 (shape_in n ps)

-- the shape of the signal with the number n
abbrev pub shape_of : ℕ → ℕ
shape_of n = shape_in n signals

-- the row with the shape s, if there is such a shape
abbrev pub row_shaped : ℕ → Option Row
row_shaped s = row_in s shapes

-- the row with another number
abbrev pub numbered : ℕ → Row → Row
numbered n r = row n r.bits r.resolution r.offset r.lowest r.highest r.mark1 r.mark2 r.mark3

-- a row but for its number
abbrev pub forget : Option Row → Option Row
forget none = none
forget (some r) = some (numbered 0 r)
