-- `bits::checksum` meets its contract: the three callees' results, put into each other.
-- Assumes nothing.
use Rattle.bits.proofs.checksum.Goals as goal

pub returns : goal.returns
returns c = (cc, c.fold.ensures.1)
