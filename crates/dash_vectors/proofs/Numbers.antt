-- Every reading of the dash is a number. Assumes nothing.
use Prim.Native.Nat.{ℕ}
use Rattle.std.specs.Prelude.{Result, Ok, Err}
use Rattle.catalogue.specs.declared.Raw.{Raw}
use Rattle.catalogue.specs.declared.Class.{Class}
use Rattle.catalogue.specs.declared.Class.TheVariants.{Value, Invalid, Absent, Error, Reserved, Outside}
use Rattle.catalogue.specs.declared.NoClass.{NoClass}
use Rattle.catalogue.specs.Class.{class_of_spec}
use Rattle.doubles.specs.Doubles.{SmallIfValue}
use Rattle.doubles.proofs.Doubles.{no_nan}
use Rattle.doubles.proofs.Values.{small_class}
use Rattle.dash.specs.Answer.{dash_for, dash_of}
use Rattle.dash_vectors.specs.Numbers.{NumberAnswered}

of_class : (c : Result Class NoClass) → SmallIfValue c → NumberAnswered (dash_for c)
of_class (Ok (Value t)) h = no_nan t h
of_class (Ok (Invalid r)) h = tt
of_class (Ok (Absent r)) h = tt
of_class (Ok (Error r)) h = tt
of_class (Ok (Reserved r)) h = tt
of_class (Ok (Outside r)) h = tt
of_class (Err e) h = tt

pub number_answered : (number : ℕ) (raw : Raw) → NumberAnswered (dash_of number raw)
unfolding dash_of
number_answered number raw = of_class (class_of_spec number raw) (small_class number raw)
