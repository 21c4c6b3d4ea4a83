-- `listing::room::fit` meets its contract: a text that fits stands at its place, and one that does not leaves the room as it was. Assumes nothing.
use Rattle.listing.proofs.Fits.{fits, too_long}
use Rattle.listing.proofs.room.fit.Goals as goal

pub returns-then-out-at : goal.returns-then-out-at
returns-then-out-at c = too_long _ _ _ c.if-out-at.true

pub returns : goal.returns
returns c = fits _ _ _ c.if-out-at.false c.put_bytes.ensures
