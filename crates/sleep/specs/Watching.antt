-- The sleep watch, in document 01's words. Assumes nothing.
use Rattle.std.specs.Prelude.{ℕ, ◌+◌, ◌-◌, ◌%◌, ◌^◌, Bool, false, cond, nat_le, Result, Ok, Err}
use Rattle.sleep.specs.declared.Watch.{Watch}
use Rattle.sleep.specs.declared.ClockWentBack.{ClockWentBack}
use Rattle.sleep.specs.declared.Updated.{Updated}

-- the answer to a call: taken, or refused because the clock went back
abbrev pub SleepAnswer : Type 0
SleepAnswer = Result Unit ClockWentBack

abbrev pub taken : SleepAnswer
taken = Ok tt

abbrev pub clock_went_back : SleepAnswer
clock_went_back = Err (record {})

-- document 01's number of each answer; 0 is no refusal
abbrev pub sleep_refusal : SleepAnswer → ℕ
sleep_refusal (Ok _) = 0
sleep_refusal (Err _) = 51

-- a watch from its parts, and what a call leaves: the watch and the answer
abbrev pub watch_of : ℕ → Bool → Watch
watch_of last_wake_spec sleeps = record { last_wake = last_wake_spec; asleep = sleeps }

abbrev pub watch_and_answer : Watch → SleepAnswer → Updated
watch_and_answer w a = record { watch = w; answer = a }

-- "it starts awake at the time given"; "awake, last wake = now"
abbrev pub awake_at : ℕ → Watch
awake_at time = watch_of time false

-- "the 32-bit circle": after so many milliseconds the clock shows the same time again
abbrev pub circle : ℕ
circle = 2 ^ 32

-- from this age on the clock is taken to have gone back
abbrev pub half_the_circle : ℕ
half_the_circle = 2 ^ 31

-- "The age is taken round the 32-bit circle, now minus last wake"
abbrev pub age : ℕ → ℕ → ℕ
age time last_wake_spec = (time + circle - last_wake_spec) % circle

-- "asleep from age 10,000 on"
abbrev pub sleeps_after : ℕ
sleeps_after = 10000

-- "it stays asleep until wake is on. While asleep no call is refused, and a wake-off call changes nothing"
abbrev pub while_asleep : Watch → ℕ → Bool → Updated
while_asleep w time wake = watch_and_answer (cond wake (awake_at time) w) taken

-- "Wake on: awake, last wake = now. Wake off: asleep from age 10,000 on"
abbrev pub while_awake : Watch → ℕ → Bool → Watch
while_awake w time wake = cond wake (awake_at time) (watch_of w.last_wake (nat_le sleeps_after (age time w.last_wake)))

-- "while awake, an age of 2^31 or more is refusal 51, whether wake is on or off"; 51 leaves the "state kept"
unfoldable pub after_call : Watch → ℕ → Bool → Updated
after_call w time wake =
    cond w.asleep (while_asleep w time wake)
    (cond (nat_le half_the_circle (age time w.last_wake)) (watch_and_answer w clock_went_back) (watch_and_answer (while_awake w time wake) taken))
