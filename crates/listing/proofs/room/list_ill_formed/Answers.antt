-- `listing::room::list_ill_formed` meets its contract: the constant is the line. Assumes nothing.
use Rattle.signal_lines.proofs.IllFormed.{spelt}
use Rattle.listing.proofs.Fits.{fitted_as}
use Rattle.listing.proofs.room.list_ill_formed.Goals as goal

pub returns : goal.returns
returns c = fitted_as _ _ spelt c.fit.ensures
