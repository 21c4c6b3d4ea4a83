-- `faults::all_below` meets its contract: what was seen and what is left make the whole. Assumes nothing.
use Prim.Native.Nat.{◌+◌}
use mathlib.Core.Path.{refl}
use borrow.Author.Rules.{rules}
use Rattle.faults.specs.Counts.{raw_below}
use Rattle.faults.proofs.Loops.{all_next, all_end}
use Rattle.faults.proofs.all_below.Goals as goal

pub loop-row-init : goal.loop-row-init
loop-row-init c = (search rules, refl)

pub loop-row-preserved : goal.loop-row-preserved
loop-row-preserved c = (
  search rules,
  all_next _ _ (search rules) (raw_below c.args.counts.each.now c.args.limit) c.loop-row.all _ _
      c.loop-row.invariant.1 (simp c.raw_of.ensures),
)

pub returns : goal.returns
returns c = all_end _ _ (search rules) (raw_below c.args.counts.each.now c.args.limit) _ _ c.loop-row.invariant.1

pub returns-2 : goal.returns-2
returns-2 c =
    all_end (c.loop-row.row + 1) _ (search rules) (raw_below c.args.counts.each.now c.args.limit) _ _
    (all_next _ _ (search rules) (raw_below c.args.counts.each.now c.args.limit) c.loop-row.all _ _ c.loop-row.invariant.1 (simp c.raw_of.ensures))
