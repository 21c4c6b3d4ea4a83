-- The state that follows, by the state's number: for a step without a weld the step with the lesser of one more condition and as many as
-- hold from the first on. Assumes nothing.
use Rattle.std.specs.Prelude.{None, Some}
use mathlib.Core.Path.{◌≡◌, refl, sym, ap, ◌∙◌, subst}
use mathlib.Core.Bool.{Bool, true, false, cond}
use Prim.Native.Nat.{ℕ, suc, min, ◌≤◌, ◌<◌}
use native.Mathlib.Omega.{arith}
use borrow.Author.Tests.{ne_eqb}
use lib.ListN.{length}
use Rattle.charging.specs.declared.ChargeObservation.{ChargeObservation}
use Rattle.charging.specs.declared.ChargeState.{ChargeState}
use Rattle.charging.specs.declared.ChargeState.TheVariants.{Start, Fault}
use Rattle.charging.specs.Observed.{count_is}
use Rattle.charging.specs.Conditions.{no_welded_fault, conditions}
use Rattle.charging.specs.States.{step_with_spec, charge_number, met_in}
use Rattle.charging.specs.Rules.{before_lost, without_weld, next_charge_spec}
use Rattle.charging.proofs.Numbers.{number_tells, few}
use Rattle.charging.proofs.Moving.{lesser_of, at_most_all}

-- a state is a step where it is not fault; its number is then below fault's
pub step_below : (s : ChargeState) → (s ≡ Fault → ⊥) → charge_number s < 7
step_below s h = go (charge_number s) (few s) (λ e. h (number_tells s Fault e))
  where
    go : (n : ℕ) → n ≤ 7 → (n ≡ 7 → ⊥) → n < 7
    go n h e = omega (arith, h, e)

-- and fault where it is not
pub is_fault : (s : ChargeState) {number : ℕ} → number ≡ charge_number s → 7 ≤ number → s ≡ Fault
is_fault s n h = number_tells s Fault (omega (arith, n, h, few s))

pub six : length conditions ≡ 6
unfolding conditions
six = refl

module _ (seen : ChargeObservation) where
  pub welded : (s : ChargeState) → no_welded_fault seen ≡ false → next_charge_spec s seen ≡ Fault
  unfolding next_charge_spec
  welded s weld = ap (λ (b : Bool). cond b (without_weld (met_in s) seen) Fault) weld

  -- how many conditions hold from the first on: at most six
  pub held_few : before_lost conditions seen ≤ 6
  held_few = subst (λ (n : ℕ). before_lost conditions seen ≤ n) six (at_most_all seen conditions)

  module _ (unwelded : no_welded_fault seen ≡ true) where
    pub of_fault : next_charge_spec Fault seen ≡ cond (count_is 1708 0 seen) Start Fault
    unfolding next_charge_spec
    of_fault = ap (λ (b : Bool). cond b (cond (count_is 1708 0 seen) Start Fault) Fault) unwelded

    pub of_step : (s : ChargeState) → charge_number s < 7 → next_charge_spec s seen ≡ step_with_spec (min (suc (charge_number s)) (before_lost conditions seen))
    unfolding next_charge_spec
    of_step s h =
        ap (λ (b : Bool). cond b (without_weld (met_in s) seen) Fault) unwelded
        ∙ ap (λ (b : Bool). without_weld (cond b None (Some (charge_number s))) seen) (ne_eqb (charge_number s) 7 (λ e. omega (arith, h, e)))
        ∙ ap step_with_spec (lesser_of seen conditions (charge_number s) (omega (arith, h, six)))

    -- what the numbers of a state say: it is a step, or fault
    pub as_step : (s : ChargeState) {number held lesser : ℕ} {next : ChargeState}
        → number ≡ charge_number s → number < 7 → held ≡ before_lost conditions seen → lesser ≡ min (suc number) held → next ≡ step_with_spec lesser → next ≡ next_charge_spec s seen
    as_step s {number} {held} n h b l e =
        e ∙ ap step_with_spec (l ∙ ap (λ (k : ℕ). min (suc k) held) n ∙ ap (min (suc (charge_number s))) b) ∙ sym (of_step s (subst (λ (k : ℕ). k < 7) n h))

    pub as_fault : (s : ChargeState) {number : ℕ} → number ≡ charge_number s → 7 ≤ number → next_charge_spec s seen ≡ cond (count_is 1708 0 seen) Start Fault
    as_fault s n h = ap (λ (t : ChargeState). next_charge_spec t seen) (is_fault s n h) ∙ of_fault
