-- `faults::highest_of` meets its contract: the highest so far and the highest of what is left make the whole. Assumes nothing.
use Prim.Native.Nat.{◌+◌}
use borrow.Author.Rules.{rules}
use Rattle.faults.specs.Counts.{level_of_spec}
use Rattle.faults.proofs.Loops.{highest_next, highest_end}
use Rattle.faults.proofs.highest_of.Goals as goal

pub loop-row-preserved : goal.loop-row-preserved
loop-row-preserved c =
    (search rules, highest_next _ _ (search rules) (level_of_spec c.args.counts.each.now) _ _ _ _ c.loop-row.invariant.1 (simp c.raw_of.ensures) c.max-highest.ensures)

pub returns : goal.returns
returns c = highest_end _ _ (search rules) (level_of_spec c.args.counts.each.now) _ _ c.loop-row.invariant.1

pub returns-2 : goal.returns-2
returns-2 c =
    highest_end (c.loop-row.row + 1) _ (search rules) (level_of_spec c.args.counts.each.now) _ _
    (highest_next _ _ (search rules) (level_of_spec c.args.counts.each.now) _ _ _ _ c.loop-row.invariant.1 (simp c.raw_of.ensures) c.max-highest.ensures)
