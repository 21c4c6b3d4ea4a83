-- `sending::from_of` meets its contract: the entry of the column at a route that is counted is the place that it leads from. Assumes nothing.
use Rattle.sending.proofs.Steps.{column_entry}
use Rattle.sending.proofs.from_of.Goals as goal

pub returns : goal.returns
returns c = column_entry c.froms.ensures.0 c.requires
