-- What one observation may do to a charge, over the answers of a step: it moves one step on at most, a lost condition leads back before
-- it, and fault is where a weld is set or the plug is still in. Assumes nothing.
use Rattle.std.specs.Prelude.{Some}
use mathlib.Core.Path.{◌≡◌, refl, sym, ap, ◌∙◌, subst}
use mathlib.Core.Bool.{Bool, true, false, cond, true≢false}
use mathlib.Core.Logic.{◌⊎◌, inl, inr}
use Prim.Native.Nat.{ℕ, suc, min, ◌≤◌, ◌<◌}
use native.Mathlib.Nat.{min-le_left, min-le_right, min-eq_left, min-eq_right}
use native.Mathlib.Omega.{arith}
use borrow.Author.Tests.{eqb-true, eqb-false, ltb-true, ltb-false}
use lib.Dec.{eqb, ltb}
use lib.ListN.{length, take}
use Rattle.charging.specs.declared.ChargeObservation.{ChargeObservation}
use Rattle.charging.specs.declared.ChargeState.{ChargeState}
use Rattle.charging.specs.declared.ChargeState.TheVariants.{Start, Fault}
use Rattle.charging.specs.Observed.{count_seen, count_is}
use Rattle.charging.specs.Conditions.{no_welded_fault, conditions}
use Rattle.charging.specs.States.{step_with_spec, charge_number}
use Rattle.charging.specs.Rules.{each_holds, before_lost, next_holds, next_charge_spec}
use Rattle.charging.specs.Refusals.{charge_refusal, counts_fit, charge_step_of}
use Rattle.charging.specs.Met.{FirstLost}
use Rattle.charging.proofs.Counts.{this_is, not_this}
use Rattle.charging.proofs.Numbers.{named_again, number_tells, step_number_law}
use Rattle.charging.proofs.Moving.{each_before, held_within, next_lost, first_not}
use Rattle.charging.proofs.Next.{six, step_below, welded, held_few, of_fault, of_step}
use Rattle.charging.proofs.Answers.{kept_or_next, taken}

-- ---- of the next state

module _ (s : ChargeState) (seen : ChargeObservation) where
  lesser_number : charge_number (step_with_spec (min (suc (charge_number s)) (before_lost conditions seen))) ≡ min (suc (charge_number s)) (before_lost conditions seen)
  lesser_number = step_number_law _ (omega (arith, min-le_right (suc (charge_number s)) (before_lost conditions seen), held_few seen))

  -- its number is not over how many conditions hold from the first on, unless it is fault
  within : (next_charge_spec s seen ≡ Fault → ⊥) → charge_number (next_charge_spec s seen) ≤ before_lost conditions seen
  within h = go (no_welded_fault seen) (eqb (charge_number s) 7) refl refl
    where
      plugged : (out : Bool) → next_charge_spec s seen ≡ cond out Start Fault → charge_number (next_charge_spec s seen) ≤ before_lost conditions seen
      plugged true e = rw e (omega arith)
      plugged false e = absurd (h e)

      go : (unwelded fault : Bool) → no_welded_fault seen ≡ unwelded → eqb (charge_number s) 7 ≡ fault → charge_number (next_charge_spec s seen) ≤ before_lost conditions seen
      go false fault w f = absurd (h (welded seen s w))
      go true true w f = plugged (count_is 1708 0 seen) (ap (λ (t : ChargeState). next_charge_spec t seen) (number_tells s Fault (eqb-true _ _ f)) ∙ of_fault seen w)
      go true false w f =
          let below : charge_number s < 7 = step_below s (λ e. eqb-false (charge_number s) 7 f (ap charge_number e)) in
          rw (of_step seen w s below) (rw lesser_number (min-le_right (suc (charge_number s)) (before_lost conditions seen)))

  -- nor is it more than one on
  one_on : (s ≡ Fault → ⊥) → (next_charge_spec s seen ≡ Fault → ⊥) → charge_number (next_charge_spec s seen) ≤ suc (charge_number s)
  one_on f h = go (no_welded_fault seen) refl
    where
      go : (unwelded : Bool) → no_welded_fault seen ≡ unwelded → charge_number (next_charge_spec s seen) ≤ suc (charge_number s)
      go false w = absurd (h (welded seen s w))
      go true w = rw (of_step seen w s (step_below s f)) (rw lesser_number (min-le_left (suc (charge_number s)) (before_lost conditions seen)))

-- where one of the conditions met so far is lost, one of them is the first
pub first_lost : (met : ℕ) (seen : ChargeObservation) → met ≤ 6 → each_holds (take met conditions) seen ≡ false → FirstLost met (before_lost conditions seen) seen
first_lost met seen few-met lost =
    let before : before_lost conditions seen < met = go (ltb (before_lost conditions seen) met) refl in
    record {
      met_so_far = before;
      lost = next_lost seen conditions (omega (arith, before, few-met, six));
      first = each_before seen conditions (before_lost conditions seen) (omega arith);
    }
  where
    go : (b : Bool) → ltb (before_lost conditions seen) met ≡ b → before_lost conditions seen < met
    go true e = ltb-true (before_lost conditions seen) met e
    go false e = absurd (true≢false (sym (each_before seen conditions met (ltb-false (before_lost conditions seen) met e)) ∙ lost))

-- ---- of a step's answer

-- fault is left to the start
pub to_the_start : (seen : ChargeObservation) → charge_refusal (charge_step_of Fault seen).answer ≡ 0 → no_welded_fault seen ≡ true → count_seen 1708 seen ≡ Some 0 → (charge_step_of Fault seen).state ≡ Start
to_the_start seen not_refused w out = taken Fault seen not_refused ∙ of_fault seen w ∙ ap (λ (b : Bool). cond b Start Fault) (this_is (count_seen 1708 seen) 0 out)

module _ (s : ChargeState) (seen : ChargeObservation) where
  module _ (not_refused : charge_refusal (charge_step_of s seen).answer ≡ 0) where
    -- (5) the state after an observation has all its own conditions met in that observation
    pub own_conditions : ((charge_step_of s seen).state ≡ Fault → ⊥) → each_holds (take (charge_number (charge_step_of s seen).state) conditions) seen ≡ true
    own_conditions h = each_before seen conditions _ (subst (λ (t : ChargeState). charge_number t ≤ before_lost conditions seen) (sym (taken s seen not_refused)) (within s seen (λ e. h (taken s seen not_refused ∙ e))))

    -- (3) outside fault and with no weld set, a lost condition leads to the last step before the first lost one, which there is
    pub back_before : (s ≡ Fault → ⊥) → no_welded_fault seen ≡ true → {before : ℕ} → FirstLost (charge_number s) before seen → (charge_step_of s seen).state ≡ step_with_spec before
    back_before f w {before} lost =
        taken s seen not_refused
        ∙ of_step seen w s (step_below s f)
        ∙ ap (λ (held : ℕ). step_with_spec (min (suc (charge_number s)) held)) (first_not seen conditions before few_enough lost.first lost.lost)
        ∙ ap step_with_spec (min-eq_right {n = before} {m = suc (charge_number s)} (omega (arith, lost.met_so_far)))
      where
        few_enough : before < length conditions
        few_enough = omega (arith, lost.met_so_far, step_below s f, six)

    -- outside fault and with no weld set it does go one on where the step's condition and all earlier ones hold
    pub goes_on : charge_number s < 6 → no_welded_fault seen ≡ true → each_holds (take (suc (charge_number s)) conditions) seen ≡ true → (charge_step_of s seen).state ≡ step_with_spec (suc (charge_number s))
    goes_on h w held =
        taken s seen not_refused
        ∙ of_step seen w s (omega (arith, h))
        ∙ ap step_with_spec (min-eq_left {n = suc (charge_number s)} {m = before_lost conditions seen} (held_within seen conditions (suc (charge_number s)) (omega (arith, h, six)) held))

    -- and it stays where all that was met holds and the next one does not, or there is none
    pub stays_there : (s ≡ Fault → ⊥) → no_welded_fault seen ≡ true → each_holds (take (charge_number s) conditions) seen ≡ true → next_holds conditions (charge_number s) seen ≡ false → (charge_step_of s seen).state ≡ s
    stays_there f w held lost =
        taken s seen not_refused
        ∙ of_step seen w s (step_below s f)
        ∙ ap (λ (k : ℕ). step_with_spec (min (suc (charge_number s)) k)) (go (ltb (charge_number s) 6) refl)
        ∙ ap step_with_spec (min-eq_right {n = charge_number s} {m = suc (charge_number s)} (omega arith))
        ∙ named_again s
      where
        go : (before_last : Bool) → ltb (charge_number s) 6 ≡ before_last → before_lost conditions seen ≡ charge_number s
        go true e = first_not seen conditions (charge_number s) (omega (arith, ltb-true (charge_number s) 6 e, six)) held lost
        go false e =
            let within : charge_number s ≤ before_lost conditions seen = held_within seen conditions (charge_number s) (omega (arith, step_below s f, six)) held in
            omega (arith, ltb-false (charge_number s) 6 e, within, held_few seen)

    -- (4) the state after it is fault exactly when a weld is set, or it was fault and 1708 is not 0
    pub fault_when : (no_welded_fault seen ≡ false) ⊎ ((s ≡ Fault) × (count_seen 1708 seen ≡ Some 0 → ⊥)) → (charge_step_of s seen).state ≡ Fault
    fault_when (inl weld) = taken s seen not_refused ∙ welded seen s weld
    fault_when (inr (was, plugged)) = taken s seen not_refused ∙ ap (λ (t : ChargeState). next_charge_spec t seen) was ∙ stays (no_welded_fault seen) refl
      where
        stays : (unwelded : Bool) → no_welded_fault seen ≡ unwelded → next_charge_spec Fault seen ≡ Fault
        stays false w = welded seen Fault w
        stays true w = of_fault seen w ∙ ap (λ (out : Bool). cond out Start Fault) (not_this (count_seen 1708 seen) 0 plugged)

    pub when_fault : (charge_step_of s seen).state ≡ Fault → (no_welded_fault seen ≡ false) ⊎ ((s ≡ Fault) × (count_seen 1708 seen ≡ Some 0 → ⊥))
    when_fault e = go (no_welded_fault seen) (eqb (charge_number s) 7) refl refl
      where
        next : next_charge_spec s seen ≡ Fault
        next = sym (taken s seen not_refused) ∙ e

        go : (unwelded fault : Bool) → no_welded_fault seen ≡ unwelded → eqb (charge_number s) 7 ≡ fault → (no_welded_fault seen ≡ false) ⊎ ((s ≡ Fault) × (count_seen 1708 seen ≡ Some 0 → ⊥))
        go false fault w f = inl w
        go true true w f =
            let was : s ≡ Fault = number_tells s Fault (eqb-true _ _ f) in
            inr (was, λ out. omega (arith, ap charge_number (sym (of_fault seen w ∙ ap (λ (b : Bool). cond b Start Fault) (this_is (count_seen 1708 seen) 0 out)) ∙ ap (λ (t : ChargeState). next_charge_spec t seen) (sym was) ∙ next)))
        go true false w f =
            let below : charge_number s < 7 = step_below s (λ e. eqb-false (charge_number s) 7 f (ap charge_number e)) in
            absurd (omega (arith, ap charge_number (sym (of_step seen w s below) ∙ next), lesser_number s seen, min-le_right (suc (charge_number s)) (before_lost conditions seen), held_few seen))

  -- (2) no observation moves more than one step on, refused ones included, and a step on needs its condition and all earlier ones
  pub one_step_on : (s ≡ Fault → ⊥) → ((charge_step_of s seen).state ≡ Fault → ⊥) → charge_number (charge_step_of s seen).state ≤ suc (charge_number s)
  one_step_on f h = go (counts_fit seen) (kept_or_next s seen)
    where
      go : (fits : Bool) → (charge_step_of s seen).state ≡ cond fits (next_charge_spec s seen) s → charge_number (charge_step_of s seen).state ≤ suc (charge_number s)
      go true e = rw e (one_on s seen f (λ k. h (e ∙ k)))
      go false e = rw e (omega arith)

  pub step_needs : (s ≡ Fault → ⊥) → charge_number (charge_step_of s seen).state ≡ suc (charge_number s) → ((charge_step_of s seen).state ≡ Fault → ⊥) → each_holds (take (suc (charge_number s)) conditions) seen ≡ true
  step_needs f e h = go (counts_fit seen) (kept_or_next s seen)
    where
      go : (fits : Bool) → (charge_step_of s seen).state ≡ cond fits (next_charge_spec s seen) s → each_holds (take (suc (charge_number s)) conditions) seen ≡ true
      go true k = each_before seen conditions (suc (charge_number s)) (omega (arith, e, ap charge_number k, within s seen (λ l. h (k ∙ l))))
      go false k = absurd (omega (arith, e, ap charge_number k))
