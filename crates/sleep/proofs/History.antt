-- With a clock that never goes back the truck sleeps 10,000 ms after the last wake, and not before, wherever the 32-bit clock runs over, and however long it is left asleep. Assumes nothing.
use Rattle.std.proofs.Common.{◌≡◌, ℕ, ◌+◌, ◌-◌, ◌<◌, ◌≤◌, Bool, true, false, cond, leb, List, [], ◌∷◌, refl, arith, le-leb, leb-false, leb-true}
use native.Mathlib.Nat.{sub_self}
use borrow.Author.Tests.{lt-leb}
use Rattle.sleep.specs.Watching.{taken, watch_of, awake_at, watch_and_answer, circle, half_the_circle, age, sleeps_after, after_call}
use Rattle.sleep.specs.History.{Call, clock_shows, woken_after, time_after, last_wake_spec, watch_after, NoneRefused, sleep_is_due, OftenAwake, NoWake}

-- the age of less than a whole turn is the time passed
age_passed : (woken time : ℕ) → woken ≤ time → time - woken < circle → age (clock_shows time) (clock_shows woken) ≡ time - woken
age_passed woken time h l = omega arith

-- a truck that is to sleep is to sleep later too
still_due : (woken time later : ℕ) → sleep_is_due woken time ≡ true → sleep_is_due woken (time + later) ≡ true
still_due woken time later e = le-leb sleeps_after (time + later - woken) (omega (arith, leb-true sleeps_after (time - woken) e))

-- one call: the watch holds what the clock showed at the last wake, and sleeps if 10,000 ms have passed
module _ (woken time : ℕ) (c : Call) (after : woken ≤ time) (often : sleep_is_due woken time ≡ false → c.later ≤ half_the_circle - sleeps_after) where
  abbrev now : ℕ
  now = time + c.later

  abbrev Step : Bool → Bool → Type 0
  Step asleep wake =
      after_call (watch_of (clock_shows woken) asleep) (clock_shows now) wake
      ≡ watch_and_answer (watch_of (clock_shows (cond wake now woken)) (sleep_is_due (cond wake now woken) now)) taken

  true_age : sleep_is_due woken time ≡ false → age (clock_shows now) (clock_shows woken) ≡ now - woken
  true_age awake = age_passed woken now (omega arith) (omega (arith, leb-false sleeps_after (time - woken) awake, often awake))

  not_back : sleep_is_due woken time ≡ false → leb half_the_circle (now - woken) ≡ false
  not_back awake = lt-leb half_the_circle (now - woken) (omega (arith, leb-false sleeps_after (time - woken) awake, often awake))

  step : Step (sleep_is_due woken time) c.wake
  unfolding after_call
  step = go (sleep_is_due woken time) c.wake refl
    where
      go : (asleep wake : Bool) → sleep_is_due woken time ≡ asleep → Step asleep wake
      go true true e = simp (sub_self now)
      go true false e = simp (still_due woken time c.later e)
      go false true e = simp (true_age e, not_back e, sub_self now)
      go false false e = simp (true_age e, not_back e)

  later_on : woken_after woken time c ≤ now
  later_on = go c.wake
    where
      go : (wake : Bool) → woken_after woken time (record { later = c.later; wake = wake }) ≤ now
      go true = omega arith
      go false = omega arith

watch_after_law : (woken time : ℕ) (calls : List Call) → woken ≤ time → OftenAwake woken time calls
    → watch_after (watch_of (clock_shows woken) (sleep_is_due woken time)) time calls
    ≡ watch_of (clock_shows (last_wake_spec woken time calls)) (sleep_is_due (last_wake_spec woken time calls) (time_after time calls))
unfolding watch_after last_wake_spec time_after OftenAwake
watch_after_law woken time [] h often = refl
watch_after_law woken time (c ∷ more) h often =
    rw (step woken time c h often.0) (watch_after_law (woken_after woken time c) (time + c.later) more (later_on woken time c h often.0) often.1)

none_refused : (woken time : ℕ) (calls : List Call) → woken ≤ time → OftenAwake woken time calls
    → NoneRefused (watch_of (clock_shows woken) (sleep_is_due woken time)) time calls
unfolding NoneRefused OftenAwake
none_refused woken time [] h often = tt
none_refused woken time (c ∷ more) h often =
    rw (step woken time c h often.0) (refl, none_refused (woken_after woken time c) (time + c.later) more (later_on woken time c h often.0) often.1)

-- a watch that starts at a time and, while awake, is called often: after every call it sleeps just if 10,000 ms have passed since the last wake, and no call is refused
pub sleeps_when_due : (start : ℕ) (calls : List Call) → OftenAwake start start calls
    → watch_after (awake_at (clock_shows start)) start calls
    ≡ watch_of (clock_shows (last_wake_spec start start calls)) (sleep_is_due (last_wake_spec start start calls) (time_after start calls))
sleeps_when_due start calls often = rw sub_self at (watch_after_law start start calls (omega arith) often)

pub never_refused : (start : ℕ) (calls : List Call) → OftenAwake start start calls → NoneRefused (awake_at (clock_shows start)) start calls
never_refused start calls often = rw sub_self at (none_refused start start calls (omega arith) often)

still_woken : (woken time : ℕ) (calls : List Call) → NoWake calls → last_wake_spec woken time calls ≡ woken
unfolding last_wake_spec NoWake
still_woken woken time [] none = refl
still_woken woken time (c ∷ more) none = rw none.0 (still_woken woken (time + c.later) more none.1)

-- with no wake at all it sleeps just if 10,000 ms have passed since the start
pub sleeps_without_wake : (start : ℕ) (calls : List Call) → OftenAwake start start calls → NoWake calls
    → watch_after (awake_at (clock_shows start)) start calls ≡ watch_of (clock_shows start) (sleep_is_due start (time_after start calls))
sleeps_without_wake start calls often none = rw (still_woken start start calls none) at (sleeps_when_due start calls often)

-- a truck that sleeps and that nothing wakes may be called whenever one likes
left_asleep : (woken time : ℕ) (calls : List Call) → sleep_is_due woken time ≡ true → NoWake calls → OftenAwake woken time calls
unfolding OftenAwake NoWake
left_asleep woken time [] due none = tt
left_asleep woken time (c ∷ more) due none = (
  (λ awake. absurd (omega (arith, leb-true sleeps_after (time - woken) due, leb-false sleeps_after (time - woken) awake))),
  rw none.0 (left_asleep woken (time + c.later) more (still_due woken time c.later due) none.1),
)

time_on : (time : ℕ) (calls : List Call) → time ≤ time_after time calls
unfolding time_after
time_on time [] = omega arith
time_on time (c ∷ more) = omega (arith, time_on (time + c.later) more)

-- parked: the first call puts the truck to sleep, and after that the calls may be months apart. It sleeps on, and none is refused
module _ (start : ℕ) (first : Call) (more : List Call) (due : sleeps_after ≤ first.later) (soon : first.later ≤ half_the_circle - sleeps_after) (none : NoWake (first ∷ more)) where
  parked_often : OftenAwake start start (first ∷ more)
  unfolding OftenAwake NoWake
  parked_often = ((λ awake. soon), rw none.0 (left_asleep start (start + first.later) more (le-leb sleeps_after (start + first.later - start) (omega (arith, due))) none.1))

  pub parked_sleeps : watch_after (awake_at (clock_shows start)) start (first ∷ more) ≡ watch_of (clock_shows start) true
  unfolding time_after
  parked_sleeps =
      rw (le-leb sleeps_after (time_after (start + first.later) more - start) (omega (arith, due, time_on (start + first.later) more))) at (sleeps_without_wake start (first ∷ more) parked_often none)

  pub parked_never_refused : NoneRefused (awake_at (clock_shows start)) start (first ∷ more)
  parked_never_refused = never_refused start (first ∷ more) parked_often
