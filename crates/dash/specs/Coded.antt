-- The working side: what is drawn by a class's code and its thousandths, as `messages: class_numbers()` gives them. proofs/Coded.antt says
-- that it is what is drawn for the class. Assumes nothing.
use Rattle.std.specs.Prelude.{ℕ, zero, suc, Result, Ok, Err}
use Rattle.catalogue.specs.declared.Thousandths.{Thousandths}
use Rattle.doubles.specs.Doubles.{in_units_spec}
use Rattle.catalogue.specs.declared.NoClass.{NoClass}
use Rattle.catalogue.specs.declared.NoClass.TheVariants.{NotInCatalogue, TooWide}
use Rattle.dash.specs.declared.Dash.{Dash}
use Rattle.dash.specs.declared.Dash.TheVariants.{Value, Invalid, Absent, Error, Reserved, Outside}

abbrev pub dash_coded : ℕ → Thousandths → Result Dash NoClass
dash_coded zero t = Ok (Value (in_units_spec t))
dash_coded (suc zero) t = Ok Invalid
dash_coded (suc (suc zero)) t = Ok Absent
dash_coded (suc (suc (suc zero))) t = Ok Error
dash_coded (suc (suc (suc (suc zero)))) t = Ok Reserved
dash_coded (suc (suc (suc (suc (suc zero))))) t = Ok Outside
dash_coded (suc (suc (suc (suc (suc (suc zero)))))) t = Err NotInCatalogue
dash_coded (suc (suc (suc (suc (suc (suc (suc more))))))) t = Err TooWide
