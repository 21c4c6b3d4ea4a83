-- `reach::pass` meets its contract: the routes of the turns passed have handed on. Assumes nothing.
use Prim.Native.Nat.{◌-◌, ◌≤◌}
use Rattle.reach.specs.Handing.{Handing}
use Rattle.reach.proofs.Passing.{Turned}
use Rattle.reach.proofs.pass.Given as goal

abbrev pub invariant-loop-t : goal.invariant-loop-t
invariant-loop-t l = (l.t ≤ l.n) × Handing l.table.starts.now l.table.ends.now (Turned l.n l.down l.t) l.initial.masks l.masks l.new

abbrev pub decreases-loop-t : goal.decreases-loop-t
decreases-loop-t l = l.n - l.t
