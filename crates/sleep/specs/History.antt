-- Calls of the watch by a clock that never goes back. Time runs on without end; the clock shows its last 32 bits. Assumes nothing.
use Rattle.std.specs.Prelude.{◌≡◌, ℕ, ◌+◌, ◌-◌, ◌%◌, ◌≤◌, Bool, false, cond, List, [], ◌∷◌, nat_le}
use Rattle.sleep.specs.declared.Watch.{Watch}
use Rattle.sleep.specs.Watching.{taken, circle, half_the_circle, sleeps_after, after_call}

-- a call comes some milliseconds after the call before it
pub record Call : Type 0 where
  pub later : ℕ
  pub wake : Bool

-- what the clock shows
abbrev pub clock_shows : ℕ → ℕ
clock_shows time = time % circle

-- the last wake after a call that comes so long after this time
abbrev pub woken_after : ℕ → ℕ → Call → ℕ
woken_after woken time c = cond c.wake (time + c.later) woken

-- the time after the calls, and the time of the last wake among them
unfoldable pub time_after : ℕ → List Call → ℕ
time_after time [] = time
time_after time (c ∷ more) = time_after (time + c.later) more

unfoldable pub last_wake_spec : ℕ → ℕ → List Call → ℕ
last_wake_spec woken time [] = woken
last_wake_spec woken time (c ∷ more) = last_wake_spec (woken_after woken time c) (time + c.later) more

-- the watch after the calls
unfoldable pub watch_after : Watch → ℕ → List Call → Watch
watch_after w time [] = w
watch_after w time (c ∷ more) = watch_after (after_call w (clock_shows (time + c.later)) c.wake).watch (time + c.later) more

-- none of the calls is refused
unfoldable pub NoneRefused : Watch → ℕ → List Call → Type 0
NoneRefused w time [] = Unit
NoneRefused w time (c ∷ more) =
    ((after_call w (clock_shows (time + c.later)) c.wake).answer ≡ taken) × NoneRefused (after_call w (clock_shows (time + c.later)) c.wake).watch (time + c.later) more

-- the truck is to sleep at this time: 10,000 ms have passed since the last wake
abbrev pub sleep_is_due : ℕ → ℕ → Bool
sleep_is_due woken time = nat_le sleeps_after (time - woken)

-- while the truck is awake, no two calls are so far apart (24 days) that the later one could be taken for a clock that went back; while it
-- sleeps they may be as far apart as they like
unfoldable pub OftenAwake : ℕ → ℕ → List Call → Type 0
OftenAwake woken time [] = Unit
OftenAwake woken time (c ∷ more) =
    (sleep_is_due woken time ≡ false → c.later ≤ half_the_circle - sleeps_after) × OftenAwake (woken_after woken time c) (time + c.later) more

-- no wake source is on at any of the calls
unfoldable pub NoWake : List Call → Type 0
NoWake [] = Unit
NoWake (c ∷ more) = (c.wake ≡ false) × NoWake more
