-- `reach::settle` meets its contract: each pass but the last makes the masks grow, and they cannot grow for ever. Assumes nothing.
use Rattle.reach.proofs.Passing.{Settling, left}
use Rattle.reach.proofs.settle.Given as goal

abbrev pub invariant-loop-new : goal.invariant-loop-new
invariant-loop-new l = Settling l.table.starts.now l.table.ends.now l.masks l.new

abbrev pub decreases-loop-new : goal.decreases-loop-new
decreases-loop-new l = left l.masks l.new
