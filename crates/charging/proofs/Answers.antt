-- When a step is refused, by document 02's number; a refused step keeps the state, and every other follows the rule. Assumes nothing.
use mathlib.Core.Path.{◌≡◌, refl}
use mathlib.Core.Bool.{Bool, true, false, cond}
use native.Mathlib.Omega.{arith}
use Rattle.charging.specs.declared.ChargeObservation.{ChargeObservation}
use Rattle.charging.specs.declared.ChargeState.{ChargeState}
use Rattle.charging.specs.Rules.{next_charge_spec}
use Rattle.charging.specs.Refusals.{charge_taken, charge_too_wide, charge_refusal, counts_fit, charge_left, charge_step_of}

module _ (s : ChargeState) (seen : ChargeObservation) where
  pub refused : charge_refusal (charge_step_of s seen).answer ≡ cond (counts_fit seen) 0 81
  unfolding charge_step_of
  refused = go (counts_fit seen)
    where
      go : (fits : Bool) → charge_refusal (cond fits (charge_left (next_charge_spec s seen) charge_taken) (charge_left s charge_too_wide)).answer ≡ cond fits 0 81
      go true = refl
      go false = refl

  pub kept_or_next : (charge_step_of s seen).state ≡ cond (counts_fit seen) (next_charge_spec s seen) s
  unfolding charge_step_of
  kept_or_next = go (counts_fit seen)
    where
      go : (fits : Bool) → (cond fits (charge_left (next_charge_spec s seen) charge_taken) (charge_left s charge_too_wide)).state ≡ cond fits (next_charge_spec s seen) s
      go true = refl
      go false = refl

  -- an observation that is not refused leads to the next state
  pub taken : charge_refusal (charge_step_of s seen).answer ≡ 0 → (charge_step_of s seen).state ≡ next_charge_spec s seen
  taken e = go (counts_fit seen) refused kept_or_next
    where
      go : (fits : Bool) → charge_refusal (charge_step_of s seen).answer ≡ cond fits 0 81 → (charge_step_of s seen).state ≡ cond fits (next_charge_spec s seen) s → (charge_step_of s seen).state ≡ next_charge_spec s seen
      go true f k = k
      go false f k = absurd (omega (arith, e, f))
