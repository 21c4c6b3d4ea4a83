-- `listing::message::list_message` meets its contract: the checksum decides. Assumes nothing.
use Rattle.listing.proofs.Prints.{message_signals, message_refused}
use Rattle.listing.proofs.Fits.{fitted_as}
use Rattle.listing.proofs.message.list_message.Goals as goal

pub returns-then-checked : goal.returns-then-checked
returns-then-checked c = fitted_as _ _ (message_signals _ _ _ _ _ c.checked.ensures c.if-checked.true) c.list_signals.ensures

pub returns : goal.returns
returns c = fitted_as _ _ (message_refused _ _ _ _ _ c.checked.ensures c.if-checked.false) c.list_refused.ensures
