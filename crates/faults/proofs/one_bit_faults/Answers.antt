-- `faults::one_bit_faults` meets its contract. Assumes nothing.
use Rattle.faults.proofs.Parts.{many_parts}
use Rattle.faults.proofs.one_bit_faults.Goals as goal

pub returns : goal.returns
returns c = simp (many_parts, c.how_many-3.ensures.0, c.how_many-2.ensures.0, c.how_many.ensures.0)
