-- `reach::fill` meets its contract: the masks of the first i routes say what each leads on to. Assumes nothing.
use Rattle.reach.proofs.Leading.{Leading}
use Rattle.reach.proofs.fill.Given as goal

abbrev pub invariant-loop-i : goal.invariant-loop-i
invariant-loop-i l = Leading l.table.starts.now l.table.ends.now l.initial.onward l.onward l.i
