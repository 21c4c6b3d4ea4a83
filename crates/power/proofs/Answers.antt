-- When a step is refused, by the documents' numbers; a refused step keeps the state, and every other follows the rules. Assumes nothing.
use mathlib.Core.Path.{◌≡◌, refl}
use mathlib.Core.Bool.{Bool, true, false, cond}
use lib.Dec.{eqb}
use Rattle.power.specs.declared.Observation.{Observation}
use Rattle.power.specs.declared.State.{State}
use Rattle.power.specs.Shares.{share_fits_spec}
use Rattle.power.specs.Rules.{next_state_spec}
use Rattle.power.specs.Refusals.{power_refusal, relays_fit_spec, commands_fit_spec, readings_fit_spec, stepped_if_fit, step_of}

module _ (s : State) (seen : Observation) where
  pub refused : power_refusal (step_of s seen).answer ≡ cond (relays_fit_spec seen) (cond (commands_fit_spec seen) (cond (readings_fit_spec seen) (cond (share_fits_spec seen.share) 0 44) 43) 42) 41
  unfolding step_of
  refused = go (relays_fit_spec seen) (commands_fit_spec seen) (readings_fit_spec seen) (share_fits_spec seen.share)
    where
      go : (a b c d : Bool) → power_refusal (stepped_if_fit a b c d s (next_state_spec s seen)).answer ≡ cond a (cond b (cond c (cond d 0 44) 43) 42) 41
      go true true true true = refl
      go true true true false = refl
      go true true false d = refl
      go true false c d = refl
      go false b c d = refl

  pub kept_or_next : (step_of s seen).state ≡ cond (eqb (power_refusal (step_of s seen).answer) 0) (next_state_spec s seen) s
  unfolding step_of
  kept_or_next = go (relays_fit_spec seen) (commands_fit_spec seen) (readings_fit_spec seen) (share_fits_spec seen.share)
    where
      go : (a b c d : Bool) → (stepped_if_fit a b c d s (next_state_spec s seen)).state ≡ cond (eqb (power_refusal (stepped_if_fit a b c d s (next_state_spec s seen)).answer) 0) (next_state_spec s seen) s
      go true true true true = refl
      go true true true false = refl
      go true true false d = refl
      go true false c d = refl
      go false b c d = refl
