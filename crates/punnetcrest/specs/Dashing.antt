-- What the dash draws, in numbers: what the call returns, with *class_code and *reading as it leaves them. Assumes nothing.
use Rattle.std.specs.Prelude.{ℕ, Float, Result, Ok, Err}
use Rattle.catalogue.specs.declared.NoClass.{NoClass}
use Rattle.dash.specs.declared.Dash.{Dash}
use Rattle.dash.specs.Answer.{dash_of, dash_number, ClassName, value, invalid, absent, error, reserved, outside, shown_class, shown_reading}

-- the code of a class: that of pc_class
abbrev pub name_code : ClassName → ℕ
name_code value = 0
name_code invalid = 1
name_code absent = 2
name_code error = 3
name_code reserved = 4
name_code outside = 5

-- a refusal leaves both
abbrev pub dashed_in_numbers : Result Dash NoClass → ℕ → Float → ℕ × (ℕ × Float)
dashed_in_numbers (Ok d) code reading = (0, (name_code (shown_class d), shown_reading d))
dashed_in_numbers (Err e) code reading = (dash_number (Err e), (code, reading))

-- pc_dash
abbrev pub dashed : ℕ → ℕ → ℕ → Float → ℕ × (ℕ × Float)
dashed number raw code reading = dashed_in_numbers (dash_of number (record { 0 = raw })) code reading
