-- `line::line_at` meets its contract: it reads the first line of what is left from the place on. Assumes nothing.
use Rattle.std.proofs.Common.{arith}
use Rattle.std.proofs.lemmas.List.{take_rest}
use Rattle.line.proofs.Firsts.{no_line, first_left, fits}
use Rattle.line.proofs.line_at.Goals as goal

pub returns-then-at-text : goal.returns-then-at-text
returns-then-at-text c = no_line _ _ c.if-at-text.true

pub overflow_add-result : goal.overflow_add-result
overflow_add-result c =
    omega (arith, fits _ _ (take_rest c.args.text.now c.args.at) _ c.read_first-line.ensures c.if-at-text.false)

pub returns : goal.returns
returns c =
    first_left _ _ (take_rest c.args.text.now c.args.at) _ c.read_first-line.ensures
