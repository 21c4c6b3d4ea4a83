-- `masks::meet` meets its contract: it computes the definition. Assumes nothing.
use mathlib.Core.Path.{refl}
use Rattle.masks.specs.Bit.{meeting}
use Rattle.masks.proofs.meet.Goals as goal

pub returns : goal.returns
unfolding meeting
returns c = refl
