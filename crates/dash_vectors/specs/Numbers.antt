-- What printing a double's bits asks for: a NaN has more than one pattern of bits. Assumes nothing: these are definitions.
use Rattle.std.specs.Prelude.{not, T, Float, Result, Ok, Err}
use Rattle.std.specs.Float.Ieee.{is_nan}
use Rattle.dash.specs.declared.Dash.{Dash}
use Rattle.dash.specs.declared.Dash.TheVariants.{Value, Invalid, Absent, Error, Reserved, Outside}
use Rattle.catalogue.specs.declared.NoClass.{NoClass}

-- a double that is no NaN
abbrev pub IsNumber : Float → Type 0
IsNumber x = T (not (is_nan x))

-- the reading that is drawn is a number, where there is one
abbrev pub NumberDrawn : Dash → Type 0
NumberDrawn (Value x) = IsNumber x
NumberDrawn Invalid = Unit
NumberDrawn Absent = Unit
NumberDrawn Error = Unit
NumberDrawn Reserved = Unit
NumberDrawn Outside = Unit

-- and that of an answer
abbrev pub NumberAnswered : Result Dash NoClass → Type 0
NumberAnswered (Ok d) = NumberDrawn d
NumberAnswered (Err e) = Unit
