-- `messages::checksum::checked` meets its contract: the field is held against the checksum where the message places it.
-- Assumes nothing.
use mathlib.Core.Path.{sym, ◌∙◌}
use Rattle.messages.proofs.Steps.{check_made, check_spared}
use Rattle.messages.proofs.checksum.checked.Goals as goal

pub returns-then-holds : goal.returns-then-holds
returns-then-holds c = check_made c.args.identifier c.args.word c.args.numbers.now c.take.result c.checksum.result (sym c.holds.ensures ∙ c.if-holds.true) c.take.ensures c.checksum.ensures.0

pub returns : goal.returns
returns c = check_spared c.args.identifier c.args.word c.args.numbers.now (sym c.holds.ensures ∙ c.if-holds.false)
