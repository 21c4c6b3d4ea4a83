-- What the call's numbers say, for every number and counts lent: 0 with ready only where every condition holds in what was lent; 93 exactly
-- where *state is over fault's number; and a call that is refused keeps *state. Assumes nothing.
use Prim.Native.Nat.{ℕ, ◌≤◌, ◌<◌}
use mathlib.Core.Bool.{Bool, true, false, cond}
use mathlib.Core.List.{List}
use mathlib.Core.Path.{◌≡◌, refl, sym, ap, ◌∙◌}
use native.Mathlib.Omega.{arith}
use borrow.Author.Tests.{leb-true, leb-false, le-leb, lt-leb}
use lib.Dec.{leb}
use Rattle.charging.specs.declared.ChargeState.{ChargeState}
use Rattle.charging.specs.declared.ChargeState.TheVariants.{ReadyToCharge}
use Rattle.std.specs.Prelude.{Option, Some, None}
use Rattle.charging.specs.States.{step_with_spec, charge_number, charge_numbered}
use Rattle.charging.specs.Rules.{next_charge_spec}
use Rattle.charging.specs.Refusals.{charge_refusal, counts_fit, charge_step_of}
use Rattle.charging.specs.Met.{EveryCondition}
use Rattle.charging.proofs.Numbers.{number_tells, step_number_law}
use Rattle.charging.proofs.Answers.{refused, kept_or_next}
use Rattle.charging.proofs.Ready.{ready_only}
use Rattle.tester.specs.Following.{not_a_charge_state, charge_seen_in, charge_in_numbers, charge_from, charge_followed}

module _ (state : ℕ) (seen : List ℕ) where
  -- PCT_DONE and PCT_CHARGE_READY
  pub ready_in_numbers : (charge_followed state seen).0 ≡ 0 → (charge_followed state seen).1 ≡ charge_number ReadyToCharge → EveryCondition (charge_seen_in seen)
  ready_in_numbers = go (charge_numbered state)
    where
      go : (from : Option ChargeState) → (charge_from from state seen).0 ≡ 0 → (charge_from from state seen).1 ≡ charge_number ReadyToCharge → EveryCondition (charge_seen_in seen)
      go (Some from) done ready = ready_only (charge_seen_in seen) from done (number_tells _ ReadyToCharge ready)
      go None done ready = absurd (omega (arith, done))

  -- PCT_NOT_A_CHARGE_STATE: of a number over fault's, and of no other
  pub no_state : 7 < state → charge_followed state seen ≡ (not_a_charge_state, state)
  unfolding charge_numbered
  no_state h = ap (λ (b : Bool). charge_from (cond b (Some (step_with_spec state)) None) state seen) (lt-leb state 7 h)

  pub of_a_state : state ≤ 7 → charge_followed state seen ≡ charge_in_numbers (charge_step_of (step_with_spec state) (charge_seen_in seen))
  unfolding charge_numbered
  of_a_state h = ap (λ (b : Bool). charge_from (cond b (Some (step_with_spec state)) None) state seen) (le-leb state 7 h)

  pub only_no_state : (charge_followed state seen).0 ≡ not_a_charge_state → 7 < state
  only_no_state e = go (leb state 7) refl
    where
      other : (fits : Bool) → charge_refusal (charge_step_of (step_with_spec state) (charge_seen_in seen)).answer ≡ cond fits 0 81 → charge_refusal (charge_step_of (step_with_spec state) (charge_seen_in seen)).answer ≡ not_a_charge_state → ⊥
      other true f g = omega (arith, f, g)
      other false f g = omega (arith, f, g)

      go : (in-range : Bool) → leb state 7 ≡ in-range → 7 < state
      go true f = absurd (other (counts_fit (charge_seen_in seen)) (refused (step_with_spec state) (charge_seen_in seen)) (ap (λ (x : ℕ × ℕ). x.0) (sym (of_a_state (leb-true state 7 f))) ∙ e))
      go false f = leb-false state 7 f

  -- a state that the monitor refuses to leave
  stays : (s : ChargeState) → (charge_refusal (charge_step_of s (charge_seen_in seen)).answer ≡ 0 → ⊥) → (charge_step_of s (charge_seen_in seen)).state ≡ s
  stays s h = go (counts_fit (charge_seen_in seen)) (refused s (charge_seen_in seen)) (kept_or_next s (charge_seen_in seen))
    where
      go : (fits : Bool) → charge_refusal (charge_step_of s (charge_seen_in seen)).answer ≡ cond fits 0 81
          → (charge_step_of s (charge_seen_in seen)).state ≡ cond fits (next_charge_spec s (charge_seen_in seen)) s → (charge_step_of s (charge_seen_in seen)).state ≡ s
      go true e k = absurd (h e)
      go false e k = k

  pub kept_in_numbers : ((charge_followed state seen).0 ≡ 0 → ⊥) → (charge_followed state seen).1 ≡ state
  unfolding charge_numbered
  kept_in_numbers = go (leb state 7) refl
    where
      go : (in-range : Bool) → leb state 7 ≡ in-range → ((charge_from (cond in-range (Some (step_with_spec state)) None) state seen).0 ≡ 0 → ⊥) → (charge_from (cond in-range (Some (step_with_spec state)) None) state seen).1 ≡ state
      go true e h = ap charge_number (stays (step_with_spec state) h) ∙ step_number_law state (leb-true state 7 e)
      go false e h = refl
