-- `faults::levels_at` meets its contract. Assumes nothing.
use Rattle.faults.proofs.Parts.{many_parts}
use Rattle.faults.proofs.levels_at.Goals as goal

pub returns : goal.returns
returns c = simp (many_parts, c.how_many-2.ensures.0, c.how_many.ensures.0)
