-- The rule of document 02, P5: the state that follows an observation whose counts fit. Assumes nothing.
use Rattle.std.specs.Prelude.{ℕ, suc, Bool, true, false, cond, ◌&&◌, List, [], ◌∷◌, get_or, take, Option, None, Some}
use Rattle.charging.specs.declared.ChargeObservation.{ChargeObservation}
use Rattle.charging.specs.declared.ChargeState.{ChargeState}
use Rattle.charging.specs.declared.ChargeState.TheVariants.{Fault}
use Rattle.charging.specs.Observed.{count_is}
use Rattle.charging.specs.Conditions.{Condition, no_welded_fault, conditions}
use Rattle.charging.specs.States.{charge_start, step_with_spec, met_in}

-- each condition of a list holds
abbrev pub each_holds : List Condition → ChargeObservation → Bool
each_holds [] seen = true
each_holds (c ∷ more) seen = c seen && each_holds more seen

-- how many stand in a list before the first that does not hold
abbrev pub before_lost : List Condition → ChargeObservation → ℕ
before_lost [] seen = 0
before_lost (c ∷ more) seen = cond (c seen) (suc (before_lost more seen)) 0

-- the condition after so many holds; after the last there is none
abbrev never : Condition
never seen = false

abbrev pub next_holds : List Condition → ℕ → ChargeObservation → Bool
next_holds list met seen = get_or list met never seen

-- "If any condition met so far is lost, the last one included, the state is the last step before the first lost one; otherwise it
-- moves one step on if the next condition holds too, and stays if not": how many are met then, where so many were
abbrev pub met_after : List Condition → ℕ → ChargeObservation → ℕ
met_after list met seen =
    cond (each_holds (take met list) seen)
    (cond (next_holds list met seen) (suc met) met)
    (before_lost list seen)

-- where no welded fault is set. In fault, "left only when none is set and 1708 is 0, and then to the start"; else by the conditions
abbrev pub without_weld : Option ℕ → ChargeObservation → ChargeState
without_weld None seen = cond (count_is 1708 0 seen) charge_start Fault
without_weld (Some met) seen = step_with_spec (met_after conditions met seen)

-- "A welded fault gives fault"
unfoldable pub next_charge_spec : ChargeState → ChargeObservation → ChargeState
next_charge_spec state seen = cond (no_welded_fault seen) (without_weld (met_in state) seen) Fault
