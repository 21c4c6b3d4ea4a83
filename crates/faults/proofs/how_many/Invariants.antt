-- `faults::how_many` meets its contract: what is counted and what is left make the whole. Assumes nothing.
use Prim.Native.Nat.{◌+◌, ◌-◌, ◌≤◌}
use mathlib.Core.Path.{◌≡◌}
use Rattle.faults.specs.Rows.{row_count, rows_between}
use Rattle.faults.specs.Counts.{stands_at_spec, how_many_spec}
use Rattle.faults.proofs.how_many.Given as goal

abbrev pub invariant-loop-row : goal.invariant-loop-row
invariant-loop-row l =
    ((l.from ≤ l.row) × ((l.n ≤ l.row - l.from) × (l.n ≤ row_count))) × (l.n + how_many_spec (stands_at_spec l.counts.each.now l.wanted) (rows_between l.row l.to) ≡ how_many_spec (stands_at_spec l.counts.each.now l.wanted) (rows_between l.from l.to))
