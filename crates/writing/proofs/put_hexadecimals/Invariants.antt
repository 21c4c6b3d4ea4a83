-- `writing::put_hexadecimals` meets its contract: writing what is left gives the final list. Assumes nothing.
use Rattle.writing.proofs.Left.{Left}
use Rattle.writing.proofs.put_hexadecimals.Given as goal

abbrev pub invariant-loop-j : goal.invariant-loop-j
invariant-loop-j l = Left l.initial.out l.at l.k l.n 16 l.out l.j l.m
