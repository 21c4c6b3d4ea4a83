-- "With 95 named, every answer is the one given before": that on two voltages, and the step's with its state, for every state and
-- observation. Assumes nothing.
use Rattle.std.specs.Prelude.{Some, Err}
use mathlib.Core.Path.{◌≡◌, refl}
use mathlib.Core.Bool.{Bool, true, false, cond}
use Rattle.catalogue.specs.declared.Raw.{Raw}
use Rattle.power.specs.declared.Observation.{Observation}
use Rattle.power.specs.declared.PowerRefusal.TheVariants.{NeitherOpenNorClosed, CommandTooHigh, ReadingTooHigh}
use Rattle.power.specs.declared.State.{State}
use Rattle.power.specs.declared.State.TheVariants.{Off, Rising, Precharge, Both, On, Falling, Fault}
use Rattle.power.specs.Shares.{seen_with}
use Rattle.power.specs.Observed.{precharge_complete_spec}
use Rattle.power.specs.Pictures.{picture}
use Rattle.power.specs.Rules.{rule3, rule4, step_else, next_state_spec}
use Rattle.power.specs.Refusals.{relays_fit_spec, commands_fit_spec, readings_fit_spec, state_and_answer, stepped_if_fit, step_of, step_taken}
use Rattle.power.specs.Before.{complete_before_p6, rule3_before_p6, next_state_before_p6, step_before_p6}

pub complete_as_before : (inside outside : Raw) → precharge_complete_spec inside outside (Some 95) ≡ complete_before_p6 inside outside
unfolding precharge_complete_spec complete_before_p6
complete_as_before inside outside = refl

module _ (seen : Observation) where
  next_as_before : (state : State) → next_state_spec state (seen_with (Some 95) seen) ≡ next_state_before_p6 state seen
  unfolding next_state_spec next_state_before_p6 step_else rule3 rule3_before_p6 rule4 picture precharge_complete_spec complete_before_p6
  next_as_before Off = refl
  next_as_before Rising = refl
  next_as_before Precharge = refl
  next_as_before Both = refl
  next_as_before On = refl
  next_as_before Falling = refl
  next_as_before Fault = refl

  pub as_before : (state : State) → step_of state (seen_with (Some 95) seen) ≡ step_before_p6 state seen
  unfolding step_of step_before_p6
  as_before state = rw (next_as_before state) (go (relays_fit_spec seen) (commands_fit_spec seen) (readings_fit_spec seen) (next_state_before_p6 state seen))
    where
      go : (a b c : Bool) (next : State)
          → stepped_if_fit a b c true state next ≡ cond a (cond b (cond c (state_and_answer next step_taken) (state_and_answer state (Err ReadingTooHigh))) (state_and_answer state (Err CommandTooHigh))) (state_and_answer state (Err NeitherOpenNorClosed))
      go true true true next = refl
      go true true false next = refl
      go true false c next = refl
      go false b c next = refl
