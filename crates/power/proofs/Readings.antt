-- What the catalogue makes of the counts of 201, 202 and 203. "both voltages valid": a count of 201 or 202 is valid where it is classed
-- as a value. Assumes nothing.
use mathlib.Core.Path.{◌≡◌, refl}
use mathlib.Core.Bool.{Bool, true, false, cond, ◌&&◌}
use mathlib.Core.Option.{some}
use Prim.Native.Nat.{ℕ, ◌*◌}
use native.Mathlib.Omega.{arith}
use borrow.Author.Tests.{ltb-true, ltb-false, leb-true, leb-false, le-leb, lt-leb}
use lib.Dec.{leb, ltb}
use lib.IntN.{ℤ, pos, ◌+ℤ◌}
use Rattle.std.specs.Prelude.{Ok, Err}
use Rattle.rows.specs.declared.Row.{Row}
use Rattle.catalogue.specs.declared.Raw.{Raw}
use Rattle.catalogue.specs.declared.Class.TheVariants.{Value, Invalid}
use Rattle.catalogue.specs.declared.NoClass.TheVariants.{TooWide}
use Rattle.rows.specs.Rows.{rows, row, plus, minus, invalid, unmarked}
use Rattle.catalogue.specs.Find.{row_of}
use Rattle.catalogue.specs.Class.{class_of_spec, class_for, between}
use Rattle.power.specs.Observed.{highest_reading, invalid_voltage, measured_class}

-- the rows of the three but for number and offset: 16 bits of 0.1 V or 0.1 A each, and 65,535 the mark invalid
abbrev measured : ℕ → ℤ → Row
measured n offset = row n 16 100 offset 0 highest_reading (invalid invalid_voltage invalid_voltage) unmarked unmarked

no_mark : (raw : ℕ) → leb 1 raw && leb raw 0 ≡ false
no_mark raw = go (leb 1 raw) refl
  where
    go : (some : Bool) → leb 1 raw ≡ some → some && leb raw 0 ≡ false
    go true e = lt-leb raw 0 (omega (arith, leb-true 1 raw e))
    go false e = refl

class_of : (n : ℕ) (offset : ℤ) (raw : Raw) → class_for (some (measured n offset)) raw ≡ measured_class offset raw
unfolding between
class_of n offset raw = go (ltb count 65535) (leb 65536 count) refl refl
  where
    count : ℕ
    count = raw.0

    go : (v w : Bool) → ltb count 65535 ≡ v → leb 65536 count ≡ w → class_for (some (measured n offset)) raw ≡ cond v (Ok (Value (record { 0 = pos (count * 100) +ℤ offset }))) (cond w (Err TooWide) (Ok (Invalid raw)))
    go true w e f =
        simp (lt-leb 65536 count (omega (arith, ltb-true count 65535 e)), lt-leb 65535 count (omega (arith, ltb-true count 65535 e)), no_mark count, le-leb 0 count (omega arith), le-leb count 65535 (omega (arith, ltb-true count 65535 e)))
    go false true e f = simp f
    go false false e f =
        simp (f, le-leb 65535 count (ltb-false count 65535 e), le-leb count 65535 (omega (arith, leb-false 65536 count f)))

pub inside_201 : (raw : Raw) → class_of_spec 201 raw ≡ measured_class (plus 0) raw
unfolding class_of_spec row_of rows
inside_201 raw = class_of 201 (plus 0) raw

pub outside_202 : (raw : Raw) → class_of_spec 202 raw ≡ measured_class (plus 0) raw
unfolding class_of_spec row_of rows
outside_202 raw = class_of 202 (plus 0) raw

pub current_203 : (raw : Raw) → class_of_spec 203 raw ≡ measured_class (minus 2000000) raw
unfolding class_of_spec row_of rows
current_203 raw = class_of 203 (minus 2000000) raw
