-- What the share does: what is complete with one share is complete with every lower one from 50 on, and none given is 90. Assumes nothing.
use Rattle.std.specs.Prelude.{Some, None}
use mathlib.Core.Path.{◌≡◌, refl}
use mathlib.Core.Bool.{Bool, true, ◌&&◌}
use Prim.Native.Nat.{◌*◌, ◌≤◌}
use native.Mathlib.Nat.{le_trans, mul-le-mul_right}
use borrow.Author.Tests.{leb-true, le-leb}
use lib.Dec.{leb, ltb}
use Rattle.catalogue.specs.declared.Raw.{Raw}
use Rattle.power.specs.declared.Observation.{Observation}
use Rattle.power.specs.declared.State.{State}
use Rattle.power.specs.declared.State.TheVariants.{Off, Rising, Precharge, Both, On, Falling, Fault}
use Rattle.power.specs.Shares.{hundredths, share_fits_spec, seen_with, Share}
use Rattle.power.specs.Observed.{valid, precharge_complete_spec}
use Rattle.power.specs.Pictures.{picture}
use Rattle.power.specs.Rules.{rule3, rule4, step_else, next_state_spec}
use Rattle.power.specs.Refusals.{step_of}
use Rattle.power.proofs.Ands.{left, right}

pub less_is_complete : (inside outside : Raw) (a b : Share) → 50 ≤ hundredths b → hundredths b ≤ hundredths a → precharge_complete_spec inside outside a ≡ true → precharge_complete_spec inside outside b ≡ true
unfolding precharge_complete_spec
less_is_complete inside outside a b low less e =
    simp (le-leb 50 (hundredths b) low, le-leb (hundredths b) 100 (le_trans less few), right fits inside_valid first, right (fits && inside_valid) (valid outside) second, right (fits && inside_valid && valid outside) (ltb 0 inside.0) third, le-leb (hundredths b * inside.0) (100 * outside.0) (le_trans (mul-le-mul_right inside.0 less) enough))
  where
    fits : Bool
    fits = share_fits_spec a

    inside_valid : Bool
    inside_valid = valid inside

    third : fits && inside_valid && valid outside && ltb 0 inside.0 ≡ true
    third = left (fits && inside_valid && valid outside && ltb 0 inside.0) (leb (hundredths a * inside.0) (100 * outside.0)) e

    second : fits && inside_valid && valid outside ≡ true
    second = left (fits && inside_valid && valid outside) (ltb 0 inside.0) third

    first : fits && inside_valid ≡ true
    first = left (fits && inside_valid) (valid outside) second

    few : hundredths a ≤ 100
    few = leb-true (hundredths a) 100 (right (leb 50 (hundredths a)) (leb (hundredths a) 100) (left fits inside_valid first))

    enough : hundredths a * inside.0 ≤ 100 * outside.0
    enough = leb-true (hundredths a * inside.0) (100 * outside.0) (right (fits && inside_valid && valid outside && ltb 0 inside.0) (leb (hundredths a * inside.0) (100 * outside.0)) e)

pub complete_by_90 : (inside outside : Raw) → precharge_complete_spec inside outside None ≡ precharge_complete_spec inside outside (Some 90)
unfolding precharge_complete_spec
complete_by_90 inside outside = refl

module _ (seen : Observation) where
  next_by_90 : (state : State) → next_state_spec state (seen_with None seen) ≡ next_state_spec state (seen_with (Some 90) seen)
  unfolding next_state_spec step_else rule3 rule4 picture precharge_complete_spec
  next_by_90 Off = refl
  next_by_90 Rising = refl
  next_by_90 Precharge = refl
  next_by_90 Both = refl
  next_by_90 On = refl
  next_by_90 Falling = refl
  next_by_90 Fault = refl

  pub none_is_90 : (state : State) → step_of state (seen_with None seen) ≡ step_of state (seen_with (Some 90) seen)
  unfolding step_of
  none_is_90 state = rw (next_by_90 state) refl
