-- `faults::how_many` meets its contract: what is counted and what is left make the whole. Assumes nothing.
use Prim.Native.Nat.{◌+◌}
use mathlib.Core.Path.{◌≡◌, refl, ◌∙◌}
use mathlib.Core.Bool.{Bool, true, false, cond}
use mir.Val.{bool_byte}
use borrow.Author.Rules.{rules}
use Rattle.faults.specs.Counts.{stands_at_spec}
use Rattle.faults.proofs.Loops.{many_next, many_end}
use Rattle.faults.proofs.how_many.Goals as goal

one_if : {b test : Bool} → b ≡ test → bool_byte b ≡ cond test 1 0
one_if {b} {test} e = rw e (go test)
  where
    go : (test : Bool) → bool_byte test ≡ cond test 1 0
    go true = refl
    go false = refl

pub loop-row-preserved : goal.loop-row-preserved
loop-row-preserved c = (
  search rules,
  many_next _ _ (search rules) (stands_at_spec c.args.counts.each.now c.args.wanted) _ _ _
      c.loop-row.invariant.1 (c.from-n.ensures ∙ one_if c.stands_at.ensures),
)

pub returns : goal.returns
returns c =
    (many_end _ _ (search rules) (stands_at_spec c.args.counts.each.now c.args.wanted) _ _ c.loop-row.invariant.1, search rules)

pub returns-2 : goal.returns-2
returns-2 c = (
  many_end (c.loop-row.row + 1) _ (search rules) (stands_at_spec c.args.counts.each.now c.args.wanted) _ _
      (many_next _ _ (search rules) (stands_at_spec c.args.counts.each.now c.args.wanted) _ _ _ c.loop-row.invariant.1 (c.from-n.ensures ∙ one_if c.stands_at.ensures)),
  search rules,
)
