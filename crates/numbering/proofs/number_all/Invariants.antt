-- `numbering::number_all` meets its contract: the first i places are laid and have their numbers. Assumes nothing.
use Rattle.numbering.proofs.Laying.{Numbering}
use Rattle.numbering.proofs.number_all.Given as goal

abbrev pub invariant-loop-i : goal.invariant-loop-i
invariant-loop-i l = Numbering l.column l.initial.numbers l.i-end l.i l.slots l.numbers
