-- An urgent observation with all relays open leaves off behind, and nothing else; in fault only with command 0 or 2. Assumes nothing.
use mathlib.Core.Path.{◌≡◌, refl, ◌∙◌}
use mathlib.Core.Bool.{Bool, true, false, cond, ◌&&◌, ◌||◌}
use Prim.Native.Nat.{ℕ}
use borrow.Author.Tests.{eqb-true}
use Rattle.power.specs.declared.Observation.{Observation}
use Rattle.power.specs.declared.State.{State}
use Rattle.power.specs.declared.State.TheVariants.{Off, Rising, Precharge, Both, On, Falling, Fault}
use Rattle.power.specs.Observed.{closed_relay, shows, all_open_spec, commanded, urgent}
use Rattle.power.specs.Pictures.{picture}
use Rattle.power.specs.Rules.{next_state_spec}
use Rattle.power.specs.Refusals.{power_refusal, step_of}
use Rattle.power.proofs.Answers.{kept_or_next}

first : (x y z : Bool) → x && y && z ≡ true → x ≡ true
first true y z e = refl
first false y z e = e

module _ (seen : Observation) (apart : all_open_spec seen ≡ true) where
  not_closed : (between positive : ℕ) → shows closed_relay between positive seen ≡ false
  not_closed between positive = simp (eqb-true seen.main_negative.0 1 (first _ _ _ apart))

  next_is_off : urgent seen ≡ true → (state : State) → (state ≡ Fault → ⊥) → next_state_spec state seen ≡ Off
  unfolding next_state_spec picture
  next_is_off now Off h = simp apart
  next_is_off now Rising h = simp (not_closed, now, apart)
  next_is_off now Precharge h = simp (not_closed, now, apart)
  next_is_off now Both h = simp (not_closed, now, apart)
  next_is_off now On h = simp (not_closed, now, apart)
  next_is_off now Falling h = simp (not_closed, now, apart)
  next_is_off now Fault h = absurd (h refl)

  -- out of fault, urgent or not
  pub fault_is_left : next_state_spec Fault seen ≡ cond (commanded 0 seen || commanded 2 seen) Off Fault
  unfolding next_state_spec
  fault_is_left = simp apart

  pub urgent_and_open : urgent seen ≡ true → (state : State) → power_refusal (step_of state seen).answer ≡ 0 → (state ≡ Fault → ⊥) → (step_of state seen).state ≡ Off
  urgent_and_open now state taken h = kept_or_next state seen ∙ simp (taken, next_is_off now state h)
