-- `catalogue::shapes::shape_of` meets its contract: each arm has the shape of its number, and what is left for `_` is no
-- signal's number. Assumes nothing.
use Rattle.catalogue.proofs.Arms.{by_none}
use Rattle.catalogue.proofs.shapes.shape_of.Goals as goal

pub returns-in_default : goal.returns-in_default
returns-in_default c = by_none c.args.number c.in_default.in_default-own.rest
