-- The class of one raw count in numbers: what the call returns, with *class_code and *thousandths as it leaves them. Assumes nothing.
use Rattle.std.specs.Prelude.{ℕ, cond, eqb, ℤ, Result}
use Rattle.catalogue.specs.declared.Class.{Class}
use Rattle.catalogue.specs.declared.NoClass.{NoClass}
use Rattle.catalogue.specs.Class.{class_of_spec, class_number}
use Rattle.framing.specs.Reading.{class_code, thousandths_of_spec}

-- a refusal leaves both
abbrev pub classed_in_numbers : Result Class NoClass → ℕ → ℤ → ℕ × (ℕ × ℤ)
classed_in_numbers c code reading = cond (eqb (class_number c) 0) (0, (class_code c, thousandths_of_spec c)) (class_number c, (code, reading))

-- pc_class
abbrev pub classed : ℕ → ℕ → ℕ → ℤ → ℕ × (ℕ × ℤ)
classed number raw code reading = classed_in_numbers (class_of_spec number (record { 0 = raw })) code reading
