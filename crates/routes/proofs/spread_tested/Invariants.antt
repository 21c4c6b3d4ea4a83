-- `routes::spread_tested` meets its contract: the first i entries are copied. Assumes nothing.
use lib.ListN.{length}
use Rattle.routes.proofs.Front.{Copied}
use Rattle.routes.proofs.spread_tested.Given as goal

abbrev pub invariant-loop-i : goal.invariant-loop-i
invariant-loop-i l = Copied l.entry-items l.initial.room (length l.entry-items) l.i l.room
