-- `bits::load` meets its contract: the bytes by their worths are the number that word_of spells out. Assumes nothing.
use mathlib.Core.Path.{◌∙◌}
use Rattle.bits.proofs.Bytes.{word_by_worth}
use Rattle.bits.proofs.load.Goals as goal

pub returns : goal.returns
returns c = c.from_le_bytes.ensures ∙ word_by_worth c.args.frame.now
