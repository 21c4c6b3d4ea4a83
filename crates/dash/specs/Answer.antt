-- "a call whose answer is either a reading in double precision or one of the five other classes by name. [..] Refusals: 3, then 26,
-- exactly when the old call gives them." The old call is the catalogue's class_of. Assumes nothing.
use Rattle.std.proofs.Math.Option.{Option, none, some}
use Rattle.std.specs.Prelude.{ℕ, pos, Float, Result, Ok, Err}
use Rattle.catalogue.specs.declared.Raw.{Raw}
use Rattle.catalogue.specs.declared.Class.{Class}
use Rattle.catalogue.specs.declared.Class.TheVariants as old
use Rattle.catalogue.specs.declared.NoClass.{NoClass}
use Rattle.catalogue.specs.Class.{class_of_spec, no_class_number}
use Rattle.doubles.specs.Doubles.{double_of, in_units_spec}
use Rattle.dash.specs.declared.Dash.{Dash}
use Rattle.dash.specs.declared.Dash.TheVariants.{Value, Invalid, Absent, Error, Reserved, Outside}

-- what is drawn for a class: the reading of a value as a double, any other class by its name
abbrev pub dash_for : Result Class NoClass → Result Dash NoClass
dash_for (Ok (old.Value t)) = Ok (Value (in_units_spec t))
dash_for (Ok (old.Invalid r)) = Ok Invalid
dash_for (Ok (old.Absent r)) = Ok Absent
dash_for (Ok (old.Error r)) = Ok Error
dash_for (Ok (old.Reserved r)) = Ok Reserved
dash_for (Ok (old.Outside r)) = Ok Outside
dash_for (Err e) = Err e

-- what a raw count of the signal with a number shows
unfoldable pub dash_of : ℕ → Raw → Result Dash NoClass
dash_of number raw = dash_for (class_of_spec number raw)

-- ---- what document 01 says for each case

-- the refusal's number, 0 where nothing is refused
abbrev pub dash_number : Result Dash NoClass → ℕ
dash_number (Ok d) = 0
dash_number (Err e) = no_class_number e

-- the six classes by name
pub data ClassName : Type 0 where
  value invalid absent error reserved outside : ClassName

-- the class of each case of the dash
abbrev pub shown_class : Dash → ClassName
shown_class (Value x) = value
shown_class Invalid = invalid
shown_class Absent = absent
shown_class Error = error
shown_class Reserved = reserved
shown_class Outside = outside

-- what stands for a reading where there is none: 0
abbrev pub no_reading : Float
no_reading = double_of (pos 0)

-- the reading of a value
abbrev pub shown_reading : Dash → Float
shown_reading (Value x) = x
shown_reading Invalid = no_reading
shown_reading Absent = no_reading
shown_reading Error = no_reading
shown_reading Reserved = no_reading
shown_reading Outside = no_reading

-- the class of an answer; a refusal has none
abbrev pub answer_class : Result Dash NoClass → Option ClassName
answer_class (Ok d) = some (shown_class d)
answer_class (Err e) = none

-- and of the old call's
abbrev pub old_class : Result Class NoClass → Option ClassName
old_class (Ok (old.Value t)) = some value
old_class (Ok (old.Invalid r)) = some invalid
old_class (Ok (old.Absent r)) = some absent
old_class (Ok (old.Error r)) = some error
old_class (Ok (old.Reserved r)) = some reserved
old_class (Ok (old.Outside r)) = some outside
old_class (Err e) = none
