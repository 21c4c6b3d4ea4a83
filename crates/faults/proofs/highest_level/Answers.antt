-- `faults::highest_level` meets its contract. Assumes nothing.
use Rattle.faults.proofs.Parts.{highest_parts}
use Rattle.faults.proofs.highest_level.Goals as goal

pub returns : goal.returns
returns c = simp (highest_parts, c.max.ensures, c.highest_of-2.ensures, c.highest_of.ensures)
