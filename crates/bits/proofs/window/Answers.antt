-- `bits::window` meets its contract: what is shifted down and cut to 32 bits is a field of so many. Assumes nothing.
use mathlib.Core.Path.{refl}
use Rattle.bits.proofs.Placing.{field_is}
use Rattle.bits.proofs.window.Goals as goal

pub returns : goal.returns
returns c = field_is _ _ _ refl
