-- `taking::route_line` meets its contract: the answer for the rest is the answer for the whole. Assumes nothing.
use Prim.Native.Nat.{◌-◌}
use lib.ListN.{length}
use Rattle.taking.proofs.Seeking.{Seeking}
use Rattle.taking.proofs.route_line.Given as goal

abbrev pub invariant-loop-at : goal.invariant-loop-at
invariant-loop-at l = Seeking l.text l.route l.at l.n l.left

abbrev pub decreases-loop-at : goal.decreases-loop-at
decreases-loop-at l = length l.text - l.at
