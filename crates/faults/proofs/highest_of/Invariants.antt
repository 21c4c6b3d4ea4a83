-- `faults::highest_of` meets its contract: the highest so far and the highest of what is left make the whole. Assumes nothing.
use Prim.Native.Nat.{◌≤◌, max}
use mathlib.Core.Path.{◌≡◌}
use Rattle.faults.specs.Rows.{rows_between}
use Rattle.faults.specs.Counts.{level_of_spec, highest_of_spec}
use Rattle.faults.proofs.highest_of.Given as goal

abbrev pub invariant-loop-row : goal.invariant-loop-row
invariant-loop-row l =
    (l.from ≤ l.row) × (max l.highest (highest_of_spec (level_of_spec l.counts.each.now) (rows_between l.row l.to)) ≡ highest_of_spec (level_of_spec l.counts.each.now) (rows_between l.from l.to))
