-- `tables::testing::rests_zero` meets its contract: the halves of both rests are the rests. Assumes nothing.
use mathlib.Core.Path.{◌∙◌}
use Rattle.zeros.proofs.Gathering.{both_halves}
use Rattle.tables.proofs.testing.rests_zero.Goals as goal

pub returns : goal.returns
returns c = c.four_zero.ensures ∙ both_halves c.args.one.now c.args.other.now c.args.count c.requires
