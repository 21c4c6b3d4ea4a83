-- The worked calls are answered so. Assumes nothing.
use Rattle.std.proofs.Common.{◌≡◌, map, refl}
use Rattle.sleep.specs.Watching.{after_call}
use Rattle.sleep.specs.WorkedCalls.{WorkedCall, worked_calls}

pub all_right : map (λ (w : WorkedCall). after_call w.before w.time w.wake) worked_calls ≡ map (λ (w : WorkedCall). w.after) worked_calls
unfolding worked_calls after_call
all_right = refl
