-- The sleep watch in numbers: what a call returns, with *last_wake and *asleep as it leaves them. Assumes nothing.
use Rattle.std.specs.Prelude.{ℕ, cond, not, eqb, leb}
use Rattle.sleep.specs.declared.Updated.{Updated}
use Rattle.sleep.specs.Watching.{taken, sleep_refusal, watch_of, watch_and_answer, awake_at, after_call}

-- 92, the face's own refusal: *asleep is neither 0 nor 1
abbrev pub not_a_sleep_state : ℕ
not_a_sleep_state = 92

-- the answer's number, and the watch as *last_wake and *asleep, which is 1 for asleep and 0 for awake
abbrev pub watched_in_numbers : Updated → ℕ × (ℕ × ℕ)
watched_in_numbers u = (sleep_refusal u.answer, (u.watch.last_wake, cond u.watch.asleep 1 0))

-- pc_sleep_start: "it starts awake at the time given"
abbrev pub started : ℕ → ℕ × (ℕ × ℕ)
started time = watched_in_numbers (watch_and_answer (awake_at time) taken)

-- pc_sleep_watch: the watch of these two numbers after the call, wake being off where it is 0; two numbers that are no watch stay
unfoldable pub watched : ℕ → ℕ → ℕ → ℕ → ℕ × (ℕ × ℕ)
watched last_wake_spec asleep time wake =
    cond (leb asleep 1) (watched_in_numbers (after_call (watch_of last_wake_spec (eqb asleep 1)) time (not (eqb wake 0)))) (not_a_sleep_state, (last_wake_spec, asleep))
