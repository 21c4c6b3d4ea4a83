-- `listing::list_lines` meets its contract: what is listed of the rest, after what was listed, is the listing of the whole. Assumes nothing.
use mathlib.Core.Path.{ap, ◌∙◌}
use native.Mathlib.Omega.{arith}
use lib.ListN.{length, length-drop}
use Rattle.listing.proofs.Running.{none_ran, all_ran, no_end, no_room, line_ran, went, stayed, stayed_long}
use Rattle.listing.proofs.list_lines.Goals as goal

pub loop-used-init : goal.loop-used-init
loop-used-init c = none_ran _ _ _

pub part_from-rest-requires : goal.part_from-rest-requires
part_from-rest-requires c = omega (arith, c.loop-used.invariant.within)

pub shape_of-out-then-end-rest : goal.shape_of-out-then-end-rest
shape_of-out-then-end-rest c = c.loop-used.invariant.size

pub returns-then-end-rest : goal.returns-then-end-rest
returns-then-end-rest c = no_end c.loop-used.invariant c.loop-used-test.true c.part_from-rest.ensures c.find-end.ensures c.if-end-rest.true

pub part_before-line-requires : goal.part_before-line-requires
part_before-line-requires c = omega (arith, c.if-end-rest.false)

pub list_line-requires : goal.list_line-requires
list_line-requires c = omega (arith, c.loop-used.invariant.inside, c.loop-used.invariant.size)

pub overflow_add-used : goal.overflow_add-used
overflow_add-used c = omega (arith, c.if-end-rest.false, ap length c.part_from-rest.ensures, length-drop c.loop-used.used c.args.text.now)

pub overflow_add-used-in-loop-used : goal.overflow_add-used-in-loop-used
overflow_add-used-in-loop-used c = omega (arith, c.if-end-rest.false, ap length c.part_from-rest.ensures, length-drop c.loop-used.used c.args.text.now, c.loop-used-test.true)

pub loop-used-smaller : goal.loop-used-smaller
loop-used-smaller c = omega (arith, c.loop-used-test.true)

pub loop-used-preserved : goal.loop-used-preserved
loop-used-preserved c = line_ran c.loop-used.invariant c.loop-used-test.true c.part_from-rest.ensures c.find-end.ensures c.if-end-rest.false c.part_before-line.ensures (went _ _ _ _ c.in-Some.ensures)

pub shape_of-out-in_default : goal.shape_of-out-in_default
shape_of-out-in_default c = stayed_long _ _ _ c.in_default.ensures ∙ c.loop-used.invariant.size

pub returns-in_default : goal.returns-in_default
returns-in_default c = no_room c.loop-used.invariant c.loop-used-test.true c.part_from-rest.ensures c.find-end.ensures c.if-end-rest.false c.part_before-line.ensures (stayed _ _ _ c.in_default.ensures)

pub shape_of-out : goal.shape_of-out
shape_of-out c = c.loop-used.invariant.size

pub returns : goal.returns
returns c = all_ran c.loop-used.invariant c.loop-used-test.false
