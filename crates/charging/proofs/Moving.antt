-- How many conditions are met after an observation: the lesser of one more and as many as hold from the first on. So it is for any list of
-- conditions. Assumes nothing.
use mathlib.Core.Path.{◌≡◌, refl, sym, ap, ◌∙◌}
use mathlib.Core.Bool.{Bool, true, false, cond, ◌&&◌, false≢true}
use mathlib.Core.List.{List, [], ◌∷◌}
use Prim.Native.Nat.{ℕ, zero, suc, min, ◌≤◌, ◌<◌, suc-le-suc}
use native.Mathlib.Nat.{le_of_suc-le-suc, not-suc-le-zero, zero-min, min-zero, suc-min-suc}
use native.Mathlib.Omega.{arith}
use lib.ListN.{length, take}
use Rattle.charging.specs.declared.ChargeObservation.{ChargeObservation}
use Rattle.charging.specs.Conditions.{Condition}
use Rattle.charging.specs.Rules.{each_holds, before_lost, next_holds, met_after}

-- one more in front, which holds
one_in_front : (held next : Bool) (met before : ℕ) → cond held (cond next (suc (suc met)) (suc met)) (suc before) ≡ suc (cond held (cond next (suc met) met) before)
one_in_front true true met before = refl
one_in_front true false met before = refl
one_in_front false next met before = refl

one_of_these : (holds : Bool) (more : ℕ) → cond holds 1 0 ≡ min 1 (cond holds (suc more) 0)
one_of_these true more = ap suc (sym (zero-min more)) ∙ sym (suc-min-suc 0 more)
one_of_these false more = sym (min-zero 1)

module _ (seen : ChargeObservation) where
  pub lesser_of : (list : List Condition) (met : ℕ) → met ≤ length list → met_after list met seen ≡ min (suc met) (before_lost list seen)
  lesser_of [] zero h = sym (min-zero 1)
  lesser_of [] (suc met) h = absurd (not-suc-le-zero h)
  lesser_of (c ∷ more) zero h = one_of_these (c seen) (before_lost more seen)
  lesser_of (c ∷ more) (suc met) h = go (c seen) (lesser_of more met (le_of_suc-le-suc h))
    where
      go : (holds : Bool) → met_after more met seen ≡ min (suc met) (before_lost more seen)
          → cond (holds && each_holds (take met more) seen) (cond (next_holds more met seen) (suc (suc met)) (suc met)) (cond holds (suc (before_lost more seen)) 0)
          ≡ min (suc (suc met)) (cond holds (suc (before_lost more seen)) 0)
      go true ih = one_in_front (each_holds (take met more) seen) (next_holds more met seen) met (before_lost more seen) ∙ ap suc ih ∙ sym (suc-min-suc (suc met) (before_lost more seen))
      go false ih = sym (min-zero (suc (suc met)))

  pub at_most_all : (list : List Condition) → before_lost list seen ≤ length list
  at_most_all [] = omega arith
  at_most_all (c ∷ more) = go (c seen) (at_most_all more)
    where
      go : (holds : Bool) → before_lost more seen ≤ length more → cond holds (suc (before_lost more seen)) 0 ≤ suc (length more)
      go true ih = suc-le-suc ih
      go false ih = omega arith

  -- those before the first that does not hold do
  pub each_before : (list : List Condition) (n : ℕ) → n ≤ before_lost list seen → each_holds (take n list) seen ≡ true
  each_before list zero h = refl
  each_before [] (suc n) h = refl
  each_before (c ∷ more) (suc n) h = go (c seen) (each_before more n) h
    where
      go : (holds : Bool) → (n ≤ before_lost more seen → each_holds (take n more) seen ≡ true) → suc n ≤ cond holds (suc (before_lost more seen)) 0 → holds && each_holds (take n more) seen ≡ true
      go true ih h = ih (le_of_suc-le-suc h)
      go false ih h = absurd (not-suc-le-zero h)

  pub held_within : (list : List Condition) (n : ℕ) → n ≤ length list → each_holds (take n list) seen ≡ true → n ≤ before_lost list seen
  held_within list zero h held = omega arith
  held_within [] (suc n) h held = absurd (not-suc-le-zero h)
  held_within (c ∷ more) (suc n) h held = go (c seen) (held_within more n (le_of_suc-le-suc h)) held
    where
      go : (holds : Bool) → (each_holds (take n more) seen ≡ true → n ≤ before_lost more seen) → holds && each_holds (take n more) seen ≡ true → suc n ≤ cond holds (suc (before_lost more seen)) 0
      go true ih held = suc-le-suc (ih held)
      go false ih held = absurd (false≢true held)

  -- the one after them does not
  pub next_lost : (list : List Condition) → before_lost list seen < length list → next_holds list (before_lost list seen) seen ≡ false
  next_lost [] h = absurd (not-suc-le-zero h)
  next_lost (c ∷ more) h = go (c seen) refl (next_lost more) h
    where
      go : (holds : Bool) → c seen ≡ holds → (before_lost more seen < length more → next_holds more (before_lost more seen) seen ≡ false)
          → cond holds (suc (before_lost more seen)) 0 < suc (length more) → next_holds (c ∷ more) (cond holds (suc (before_lost more seen)) 0) seen ≡ false
      go true e ih h = ih (le_of_suc-le-suc h)
      go false e ih h = e

  -- and the one after those that hold is the first that does not, where it does not
  pub first_not : (list : List Condition) (n : ℕ) → n < length list → each_holds (take n list) seen ≡ true → next_holds list n seen ≡ false → before_lost list seen ≡ n
  first_not [] n h before lost = absurd (not-suc-le-zero h)
  first_not (c ∷ more) zero h before lost = simp lost
  first_not (c ∷ more) (suc n) h before lost = go (c seen) (λ e. first_not more n (le_of_suc-le-suc h) e lost) before
    where
      go : (holds : Bool) → (each_holds (take n more) seen ≡ true → before_lost more seen ≡ n) → holds && each_holds (take n more) seen ≡ true → cond holds (suc (before_lost more seen)) 0 ≡ suc n
      go true ih before = ap suc (ih before)
      go false ih before = absurd (false≢true before)
