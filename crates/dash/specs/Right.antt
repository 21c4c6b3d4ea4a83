-- P1 over an answer of the call, sentence by sentence. proofs/Right.antt shows that what the call answers is right so, and that nothing
-- else is. Assumes nothing: these are definitions.
use Rattle.std.specs.Prelude.{◌≡◌, ℕ, ℤ, pos, ◌*ℤ◌, Float, Result, Ok}
use Rattle.std.specs.Float.{binary64}
use Rattle.std.specs.Float.Ieee.{div}
use Rattle.catalogue.specs.declared.Raw.{Raw}
use Rattle.catalogue.specs.declared.Thousandths.{Thousandths}
use Rattle.catalogue.specs.declared.Class.TheVariants as old
use Rattle.catalogue.specs.Class.{class_of_spec, class_number}
use Rattle.doubles.specs.Doubles.{double_of, IsWhole, nearest_to}
use Rattle.catalogue.specs.declared.NoClass.{NoClass}
use Rattle.dash.specs.declared.Dash.{Dash}
use Rattle.dash.specs.declared.Dash.TheVariants.{Value}
use Rattle.dash.specs.Answer.{dash_number, answer_class, old_class}

-- a double is the reading of a raw count of the signal with a number
pub record ReadingShown (number : ℕ) (raw : Raw) (x : Float) : Type 0 where
  -- "the exact whole number of thousandths", which the old call gives
  pub thousandths : Thousandths
  pub read : class_of_spec number raw ≡ Ok (old.Value thousandths)
  -- "turned into a double without loss"
  pub without_loss : IsWhole (double_of thousandths.0) thousandths.0
  -- "then divided once by 1000"
  pub divided : x ≡ div binary64 (double_of thousandths.0) (double_of (pos 1000))
  -- so the exact quotient is rounded once
  pub rounded : x ≡ nearest_to thousandths.0 1000
  -- "Where the thousandths are a multiple of 1000 the result must be that whole number exactly."
  pub whole : (k : ℤ) → thousandths.0 ≡ k *ℤ pos 1000 → IsWhole x k

-- an answer of the call
pub record DashRight (number : ℕ) (raw : Raw) (answer : Result Dash NoClass) : Type 0 where
  -- "the two agree on the class for every raw count of every signal"
  pub class : answer_class answer ≡ old_class (class_of_spec number raw)
  -- "Refusals: 3, then 26, exactly when the old call gives them."
  pub refusal : dash_number answer ≡ class_number (class_of_spec number raw)
  pub reading : (x : Float) → answer ≡ Ok (Value x) → ReadingShown number raw x
