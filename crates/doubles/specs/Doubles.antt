-- "The reading is the exact whole number of thousandths, turned into a double without loss (prove that it always fits), then divided
-- once by 1000." Doubles and what is done with them are IEEE 754's binary64, as the logic has it (lib.Ieee); proofs/Doubles.antt and
-- proofs/Values.antt have the theorems. Assumes nothing.
use Rattle.std.specs.Prelude.{ℕ, suc, ◌≤◌, true, false, ℤ, pos, negsuc, nat_abs, Float, Result, Ok, Err}
use Rattle.std.specs.Float.{binary64}
use Rattle.std.specs.Float.Ieee.{round, div, of_int}
use Rattle.std.specs.Float.Ieee.Exact.{HasValue}
use Rattle.rows.specs.Rule.{exact_doubles}
use Rattle.catalogue.specs.declared.Thousandths.{Thousandths}
use Rattle.catalogue.specs.declared.Class.{Class}
use Rattle.catalogue.specs.declared.Class.TheVariants.{Value, Invalid, Absent, Error, Reserved, Outside}
use Rattle.catalogue.specs.declared.NoClass.{NoClass}

-- a whole number turned into a double
abbrev pub double_of : ℤ → Float
double_of z = of_int binary64 z

-- that double divided once by 1000: a reading in the printed unit
unfoldable pub in_units_spec : Thousandths → Float
in_units_spec t = div binary64 (double_of t.0) (double_of (pos 1000))

-- ---- what the theorems say of it

-- a double is just this whole number
abbrev pub IsWhole : Float → ℤ → Type 0
IsWhole x (pos n) = HasValue x false n 1
IsWhole x (negsuc n) = HasValue x true (suc n) 1

-- the double nearest to an exact quotient, of two equally near ones the even: what one rounding makes of z / d
unfoldable pub nearest_to : ℤ → ℕ → Float
nearest_to (pos n) d = round binary64 false n d
nearest_to (negsuc n) d = round binary64 true (suc n) d

-- thousandths of which a double loses nothing
abbrev pub Small : Thousandths → Type 0
Small t = nat_abs t.0 ≤ exact_doubles

-- something holds of the thousandths of a class, where it is a value
abbrev pub OfValue : (Thousandths → Type 0) → Result Class NoClass → Type 0
OfValue P (Ok (Value t)) = P t
OfValue P (Ok (Invalid r)) = Unit
OfValue P (Ok (Absent r)) = Unit
OfValue P (Ok (Error r)) = Unit
OfValue P (Ok (Reserved r)) = Unit
OfValue P (Ok (Outside r)) = Unit
OfValue P (Err e) = Unit

-- a double loses nothing of them
abbrev pub SmallIfValue : Result Class NoClass → Type 0
SmallIfValue k = OfValue Small k
