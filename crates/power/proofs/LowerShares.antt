-- Of two shares that fit, the lower one leaves every step as it is, but for the one from precharge to both, which the higher one may call a
-- fault. Assumes nothing.
use mathlib.Core.Path.{◌≡◌, refl}
use mathlib.Core.Bool.{Bool, true, false, cond, ◌&&◌, ◌||◌}
use mathlib.Core.Logic.{◌⊎◌, inl, inr}
use Prim.Native.Nat.{◌≤◌}
use borrow.Author.Tests.{leb-true}
use lib.Dec.{leb}
use Rattle.power.specs.declared.Observation.{Observation}
use Rattle.power.specs.declared.State.{State}
use Rattle.power.specs.declared.State.TheVariants.{Off, Rising, Precharge, Both, On, Falling, Fault}
use Rattle.power.specs.Shares.{hundredths, share_fits_spec, seen_with, Share}
use Rattle.power.specs.Observed.{shows, all_open_spec, commanded, urgent, precharge_complete_spec}
use Rattle.power.specs.Pictures.{picture}
use Rattle.power.specs.Rules.{rule3, rule4, step_else, next_state_spec}
use Rattle.power.specs.Refusals.{relays_fit_spec, commands_fit_spec, readings_fit_spec, step_of}
use Rattle.power.specs.Sooner.{Sooner}
use Rattle.power.proofs.Ands.{left}
use Rattle.power.proofs.Closing.{not_falling}
use Rattle.power.proofs.Shared.{less_is_complete}

module _ (seen : Observation) (a b : Share) where
  abbrev complete : Share → Bool
  complete share = precharge_complete_spec seen.inside seen.outside share

  -- both for fault, from precharge, and why
  record BothForFault (state higher lower : State) : Type 0 where
    from : state ≡ Precharge
    closing : shows 2 2 2 seen ≡ true
    up : commanded 1 seen ≡ true
    missed : complete a ≡ false
    met : complete b ≡ true
    by_the_higher : higher ≡ Fault
    by_the_lower : lower ≡ Both

  module _ (fits : share_fits_spec b ≡ true) (less : hundredths b ≤ hundredths a) where
    from_precharge : (next_state_spec Precharge (seen_with b seen) ≡ next_state_spec Precharge (seen_with a seen)) ⊎ BothForFault Precharge (next_state_spec Precharge (seen_with a seen)) (next_state_spec Precharge (seen_with b seen))
    unfolding next_state_spec step_else rule3 rule4 picture
    from_precharge =
        go (shows 2 2 1 seen) (urgent seen && all_open_spec seen) (shows 2 2 2 seen) (commanded 1 seen) (complete a) (complete b) refl refl refl refl
        (less_is_complete seen.inside seen.outside a b (leb-true 50 (hundredths b) (left (leb 50 (hundredths b)) (leb (hundredths b) 100) fits)) less)
      where
        falls : Bool
        falls = shows 2 1 1 seen && (commanded 2 seen || urgent seen)

        after : Bool → Bool → Bool → Bool → Bool → State
        after own drops closed up enough = cond own Precharge (cond drops Off (cond (closed && (up && enough)) Both (cond falls Falling Fault)))

        go : (own drops closed up high low : Bool) → shows 2 2 2 seen ≡ closed → commanded 1 seen ≡ up → complete a ≡ high → complete b ≡ low → (high ≡ true → low ≡ true)
            → (after own drops closed up low ≡ after own drops closed up high) ⊎ BothForFault Precharge (after own drops closed up high) (after own drops closed up low)
        go true drops closed up high low c u x y h = inl refl
        go false true closed up high low c u x y h = inl refl
        go false false false up high low c u x y h = inl refl
        go false false true false high low c u x y h = inl refl
        go false false true true true low c u x y h = rw (h refl) (inl refl)
        go false false true true false true c u x y h =
            inr (record { from = refl; closing = c; up = u; missed = x; met = y; by_the_higher = simp (not_falling seen c); by_the_lower = refl })
        go false false true true false false c u x y h = inl refl

    next_state : (state : State) → (next_state_spec state (seen_with b seen) ≡ next_state_spec state (seen_with a seen)) ⊎ BothForFault state (next_state_spec state (seen_with a seen)) (next_state_spec state (seen_with b seen))
    unfolding next_state_spec step_else rule3 rule4 picture
    next_state Off = inl refl
    next_state Rising = inl refl
    next_state Precharge = from_precharge
    next_state Both = inl refl
    next_state On = inl refl
    next_state Falling = inl refl
    next_state Fault = inl refl

    pub lower_share : share_fits_spec a ≡ true → (state : State) → (step_of state (seen_with b seen) ≡ step_of state (seen_with a seen)) ⊎ Sooner seen a b state
    unfolding step_of picture
    lower_share higher state = go (relays_fit_spec seen) (commands_fit_spec seen) (readings_fit_spec seen) refl refl refl (next_state state)
      where
        go : (r c m : Bool) → relays_fit_spec seen ≡ r → commands_fit_spec seen ≡ c → readings_fit_spec seen ≡ m
            → (next_state_spec state (seen_with b seen) ≡ next_state_spec state (seen_with a seen)) ⊎ BothForFault state (next_state_spec state (seen_with a seen)) (next_state_spec state (seen_with b seen))
            → (step_of state (seen_with b seen) ≡ step_of state (seen_with a seen)) ⊎ Sooner seen a b state
        go true true true f g h (inl e) = inl (rw (fits, higher, e) refl)
        go true true true f g h (inr s) =
            inr (record { from = s.from; closing = s.closing; up = s.up; missed = s.missed; met = s.met; by_the_higher = rw (higher, f, g, h, s.by_the_higher) refl; by_the_lower = rw (fits, f, g, h, s.by_the_lower) refl })
        go true true false f g h s = inl (rw (fits, higher, f, g, h) refl)
        go true false m f g h s = inl (rw (fits, higher, f, g) refl)
        go false c m f g h s = inl (rw (fits, higher, f) refl)
