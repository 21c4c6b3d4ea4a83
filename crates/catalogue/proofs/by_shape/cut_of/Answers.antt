-- `catalogue::by_shape::cut_of` meets its contract: what is cut does not ask for the row's number.
-- Assumes nothing.
use Rattle.catalogue.proofs.Classing.{shaped_cut}
use Rattle.catalogue.proofs.by_shape.cut_of.Goals as goal

pub returns : goal.returns
returns c = shaped_cut _ _ _ c.shape_of.ensures c.cut_shaped.ensures
