-- The share reaches the step: where main positive closes on command 1 and nothing is refused, precharge is left to both exactly where it is
-- complete with the observation's share, and else to fault. Assumes nothing.
use mathlib.Core.Path.{◌≡◌, refl, ◌∙◌}
use mathlib.Core.Bool.{Bool, true, false, cond, ◌&&◌}
use native.Mathlib.Omega.{arith}
use Rattle.power.specs.declared.Observation.{Observation}
use Rattle.power.specs.declared.State.TheVariants.{Off, Precharge, Both, Fault}
use Rattle.power.specs.Observed.{shows, all_open_spec, commanded, urgent, precharge_complete_spec}
use Rattle.power.specs.Pictures.{picture}
use Rattle.power.specs.Rules.{rule3, rule4, step_else, next_state_spec}
use Rattle.power.specs.Refusals.{power_refusal, step_of}
use Rattle.power.proofs.AnyOrder.{first_relay, second_relay, third_relay}
use Rattle.power.proofs.Answers.{kept_or_next}

module _ (seen : Observation) (closing : picture Both seen ≡ true) where
  not_own : shows 2 2 1 seen ≡ false
  unfolding picture
  not_own = go (shows 2 2 1 seen) refl
    where
      go : (p : Bool) → shows 2 2 1 seen ≡ p → p ≡ false
      go true e = absurd (omega (arith, third_relay seen 2 2 2 closing, third_relay seen 2 2 1 e))
      go false e = refl

  not_open : all_open_spec seen ≡ false
  unfolding picture
  not_open = go (all_open_spec seen) refl
    where
      go : (p : Bool) → all_open_spec seen ≡ p → p ≡ false
      go true e = absurd (omega (arith, first_relay seen 2 2 2 closing, first_relay seen 1 1 1 e))
      go false e = refl

  -- the pictures of both and of falling never show at once
  pub not_falling : shows 2 1 1 seen ≡ false
  unfolding picture
  not_falling = go (shows 2 1 1 seen) refl
    where
      go : (p : Bool) → shows 2 1 1 seen ≡ p → p ≡ false
      go true e = absurd (omega (arith, second_relay seen 2 2 2 closing, second_relay seen 2 1 1 e))
      go false e = refl

  next_is : commanded 1 seen ≡ true → next_state_spec Precharge seen ≡ cond (precharge_complete_spec seen.inside seen.outside seen.share) Both Fault
  unfolding next_state_spec step_else rule3 rule4 picture
  next_is up = simp (not_own, not_open, closing, up, not_falling) (go (urgent seen))
    where
      go : (u : Bool) → cond (u && false) Off (cond (precharge_complete_spec seen.inside seen.outside seen.share) Both Fault) ≡ cond (precharge_complete_spec seen.inside seen.outside seen.share) Both Fault
      go true = refl
      go false = refl

  pub by_the_share : commanded 1 seen ≡ true → power_refusal (step_of Precharge seen).answer ≡ 0 → (step_of Precharge seen).state ≡ cond (precharge_complete_spec seen.inside seen.outside seen.share) Both Fault
  by_the_share up taken = kept_or_next Precharge seen ∙ simp (taken, next_is up)
