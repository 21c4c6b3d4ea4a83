-- `messages::checksum::summed` meets its contract: the checksum is put in where the message places it.
-- Assumes nothing.
use mathlib.Core.Path.{sym, ◌∙◌}
use Rattle.messages.proofs.Packs.{summed_there, summed_nowhere}
use Rattle.messages.proofs.checksum.summed.Goals as goal

pub returns-then-holds : goal.returns-then-holds
returns-then-holds c = summed_there c.args.identifier c.args.word c.args.numbers.now (sym c.holds.ensures ∙ c.if-holds.true) c.place.result c.checksum.result c.place.ensures c.checksum.ensures.0

pub returns : goal.returns
returns c = summed_nowhere c.args.identifier c.args.word c.args.numbers.now (sym c.holds.ensures ∙ c.if-holds.false)
