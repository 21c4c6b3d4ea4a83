-- `numerals::numeral` meets its contract: the answer for the rest, after the value of the digits passed, is the answer for the whole. Assumes nothing.
use Rattle.numerals.proofs.Reading.{Passed}
use Rattle.numerals.proofs.numeral.Given as goal

abbrev pub invariant-loop-b : goal.invariant-loop-b
invariant-loop-b l = Passed l.s l.base l.v l.b-index
