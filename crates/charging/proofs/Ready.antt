-- "An observation that is not refused never shows ready unless every condition holds in that same observation." Assumes nothing.
use Rattle.std.specs.Prelude.{Option, Some}
use mathlib.Core.Path.{◌≡◌, refl, ap, subst}
use mathlib.Core.Bool.{Bool, true, false, ◌&&◌, ◌||◌, and-eq-true_iff}
use mathlib.Core.Logic.{◌⊎◌, inl, inr}
use native.Mathlib.Omega.{arith}
use lib.ListN.{take}
use Prim.Native.Nat.{ℕ}
use Rattle.charging.specs.declared.ChargeObservation.{ChargeObservation}
use Rattle.charging.specs.declared.ChargeState.{ChargeState}
use Rattle.charging.specs.declared.ChargeState.TheVariants.{ReadyToCharge}
use Rattle.charging.specs.Observed.{count_seen, is_count, count_is}
use Rattle.charging.specs.Conditions.{plug_seen, self_check_good, no_welded_fault, main_relays_closed, charging_allowed, charge_relays_closed, conditions}
use Rattle.charging.specs.States.{charge_number}
use Rattle.charging.specs.Rules.{each_holds}
use Rattle.charging.specs.Refusals.{charge_refusal, charge_step_of}
use Rattle.charging.specs.Met.{EveryCondition}
use Rattle.charging.proofs.Counts.{is_this}
use Rattle.charging.proofs.Steps.{own_conditions}

both : (a b : Bool) → a && b ≡ true → (a ≡ true) × (b ≡ true)
both a b e = (and-eq-true_iff a b).0 e

one_of_three : (n : Option ℕ) (a b c : ℕ) → is_count n a || is_count n b || is_count n c ≡ true → (n ≡ Some a) ⊎ ((n ≡ Some b) ⊎ (n ≡ Some c))
one_of_three n a b c e = go (is_count n a) (is_count n b) refl refl e
  where
    go : (x y : Bool) → is_count n a ≡ x → is_count n b ≡ y → x || y || is_count n c ≡ true → (n ≡ Some a) ⊎ ((n ≡ Some b) ⊎ (n ≡ Some c))
    go true y p q h = inl (is_this n a p)
    go false true p q h = inr (inl (is_this n b q))
    go false false p q h = inr (inr (is_this n c h))

module _ (seen : ChargeObservation) where
  is : (number n : ℕ) → count_is number n seen ≡ true → count_seen number seen ≡ Some n
  is number n e = is_this (count_seen number seen) n e

  two : (a b m n : ℕ) → count_is a m seen && count_is b n seen ≡ true → (count_seen a seen ≡ Some m) × (count_seen b seen ≡ Some n)
  two a b m n e = let h = both (count_is a m seen) (count_is b n seen) e in (is a m h.0, is b n h.1)

  four : count_is 311 0 seen && count_is 313 0 seen && count_is 325 0 seen && count_is 327 0 seen ≡ true → (count_seen 311 seen ≡ Some 0) × ((count_seen 313 seen ≡ Some 0) × ((count_seen 325 seen ≡ Some 0) × (count_seen 327 seen ≡ Some 0)))
  four e =
      let h = both (count_is 311 0 seen && count_is 313 0 seen && count_is 325 0 seen) (count_is 327 0 seen) e in
      let g = both (count_is 311 0 seen && count_is 313 0 seen) (count_is 325 0 seen) h.0 in
      let f = two 311 313 0 0 g.0 in
      (f.0, (f.1, (is 325 0 g.1, is 327 0 h.1)))

  -- each of the six holds: count by count
  every : each_holds (take 6 conditions) seen ≡ true → EveryCondition seen
  unfolding conditions
  every e =
      let a = both (plug_seen seen) _ e in
      let b = both (self_check_good seen) _ a.1 in
      let c = both (no_welded_fault seen) _ b.1 in
      let d = both (main_relays_closed seen) _ c.1 in
      let f = both (charging_allowed seen) _ d.1 in
      let g = both (charge_relays_closed seen) true f.1 in
      record {
        plug = one_of_three (count_seen 1708 seen) 1 2 3 a.0;
        self_check = is 1605 0 b.0;
        unwelded = four c.0;
        main_relays = two 301 302 2 2 d.0;
        allowed = is 1709 1 f.0;
        charge_relays = two 304 306 2 2 g.0;
      }

  -- (1) the state after an observation that is not refused is ready only where every condition holds in it
  pub ready_only : (s : ChargeState) → charge_refusal (charge_step_of s seen).answer ≡ 0 → (charge_step_of s seen).state ≡ ReadyToCharge → EveryCondition seen
  ready_only s not_refused e =
      every (subst (λ (t : ChargeState). each_holds (take (charge_number t) conditions) seen ≡ true) e
      (own_conditions s seen not_refused (λ f. omega (arith, ap charge_number e, ap charge_number f))))
