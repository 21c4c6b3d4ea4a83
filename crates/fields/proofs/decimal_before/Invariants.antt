-- `fields::decimal_before` meets its contract: the answer for the rest, after the digits passed, is the answer for the whole. Assumes nothing.
use Rattle.fields.proofs.Run.{Passed}
use Rattle.fields.proofs.decimal_before.Given as goal

abbrev pub invariant-loop-i : goal.invariant-loop-i
invariant-loop-i l = Passed l.text l.stop l.v l.i
