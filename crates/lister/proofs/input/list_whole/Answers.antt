-- `lister::input::list_whole` meets its contract: it ends where no whole line is left. Assumes nothing.
use Rattle.std.proofs.Common.{ap, ◌∙◌, length, arith}
use lib.ListN.{length-drop}
use Rattle.listing.proofs.Sizes.{list_long, list_used}
use Rattle.lister.proofs.Whole.{none_used, no_book_law, all_used}
use Rattle.lister.proofs.input.list_whole.Goals as goal

pub returns-then-listed-eq0 : goal.returns-then-listed-eq0
returns-then-listed-eq0 g c = none_used _ _ c.loop-used.invariant.0 c.loop-used.invariant.1 c.part_from-rest.ensures c.in-Ok.ensures c.if-listed-eq0.true

pub overflow_add-used : goal.overflow_add-used
overflow_add-used g c =
    omega (arith, list_used _ _ _ _ c.in-Ok.ensures, ap length c.part_from-rest.ensures, length-drop c.loop-used.used c.args.text.now, c.loop-used-test.true)

pub loop-used-preserved : goal.loop-used-preserved
loop-used-preserved g c =
    (omega (arith, list_used _ _ _ _ c.in-Ok.ensures, ap length c.part_from-rest.ensures, length-drop c.loop-used.used c.args.text.now, c.loop-used-test.true), list_long _ _ _ _ c.in-Ok.ensures ∙ c.loop-used.invariant.1)

pub returns-in_default : goal.returns-in_default
returns-in_default g c = no_book_law _ _ c.loop-used.invariant.0 c.loop-used.invariant.1 _ c.in_default.ensures

pub returns : goal.returns
returns g c = all_used c.loop-used.invariant.0 c.loop-used-test.false
