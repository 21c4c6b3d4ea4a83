-- `faults::all_below` meets its contract: what was seen and what is left make the whole. Assumes nothing.
use Prim.Native.Nat.{◌≤◌}
use mathlib.Core.Path.{◌≡◌}
use mathlib.Core.Bool.{◌&&◌}
use Rattle.faults.specs.Rows.{rows_between}
use Rattle.faults.specs.Counts.{raw_below, all_of}
use Rattle.faults.proofs.all_below.Given as goal

abbrev pub invariant-loop-row : goal.invariant-loop-row
invariant-loop-row l =
    (l.from ≤ l.row) × (l.all && all_of (raw_below l.counts.each.now l.limit) (rows_between l.row l.to) ≡ all_of (raw_below l.counts.each.now l.limit) (rows_between l.from l.to))
