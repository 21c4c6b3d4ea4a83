-- From the watch's own answer to what the call returns and leaves. Assumes nothing.
use Prim.Native.Nat.{ℕ, ◌≤◌, ◌<◌}
use mathlib.Core.Bool.{Bool, cond, not}
use mathlib.Core.Path.{◌≡◌, ap}
use lib.Dec.{eqb}
use borrow.Author.Tests.{le-leb, lt-leb}
use Rattle.sleep.specs.declared.Updated.{Updated}
use Rattle.sleep.specs.Watching.{sleep_refusal, watch_of, after_call}
use Rattle.punnetcrest.specs.Sleeping.{not_a_sleep_state, watched_in_numbers, watched}

pub no_watch : (last_wake_spec asleep time wake : ℕ) → 1 < asleep → (not_a_sleep_state, (last_wake_spec, asleep)) ≡ watched last_wake_spec asleep time wake
unfolding watched
no_watch last_wake_spec asleep time wake h = rw (lt-leb asleep 1 h)

pub as_watched : (last_wake_spec asleep time wake : ℕ) {u : Updated} {sleeps : Bool} → asleep ≤ 1 → u ≡ after_call (watch_of last_wake_spec (eqb asleep 1)) time (not (eqb wake 0)) → u.watch.asleep ≡ sleeps
    → (sleep_refusal u.answer, (u.watch.last_wake, cond sleeps 1 0)) ≡ watched last_wake_spec asleep time wake
unfolding watched
as_watched last_wake_spec asleep time wake h e s = rw (le-leb asleep 1 h, ← s) (ap watched_in_numbers e)
