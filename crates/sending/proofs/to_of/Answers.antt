-- `sending::to_of` meets its contract: the entry of the column at a route that is counted is the place that it leads to. Assumes nothing.
use Rattle.sending.proofs.Steps.{column_entry}
use Rattle.sending.proofs.to_of.Goals as goal

pub returns : goal.returns
returns c = column_entry c.tos.ensures.0 c.requires
