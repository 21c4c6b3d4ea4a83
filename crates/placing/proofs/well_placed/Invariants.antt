-- `placing::well_placed` meets its contract: the answer for the signals from `at` on is the answer for all, those before it stand alone, fill what is held, and have the stamp on their places unless they have a start of their own. Assumes nothing.
use Rattle.placing.proofs.Signals.{Passed}
use Rattle.placing.proofs.well_placed.Given as goal

abbrev pub invariant-loop-at : goal.invariant-loop-at
invariant-loop-at l = Passed l.numbers l.starts l.initial.stamps l.filled l.stamps l.stamp l.at
