-- `masks::either` meets its contract: bit by bit. Assumes nothing.
use Rattle.masks.proofs.Bits.{bit_or_law}
use Rattle.masks.proofs.either.Goals as goal

pub returns : goal.returns
returns c k = bit_or_law c.args.a c.args.b k
