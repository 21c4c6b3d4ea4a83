-- `gateway_checker::among` meets its contract: a mask has no number past its bits. Assumes nothing.
use mathlib.Core.Path.{sym, ◌∙◌}
use native.Mathlib.Omega.{arith}
use Rattle.std.proofs.lemmas.Bool.{le-ltb}
use Rattle.gateway_checker.proofs.Meeting.{bit_beyond}
use Rattle.gateway_checker.proofs.among.Goals as goal

pub returns-else-number-lt-WIDTH : goal.returns-else-number-lt-WIDTH
returns-else-number-lt-WIDTH c =
    le-ltb _ _ c.if-number-lt-WIDTH.false ∙ sym (bit_beyond _ _ (omega (arith, c.ranges.mask)) c.if-number-lt-WIDTH.false)
