-- `taking::route_line` meets its contract: the answer for the rest is the answer for the whole. Assumes nothing.
use native.Mathlib.Omega.{arith}
use Rattle.taking.proofs.Going.{read}
use Rattle.taking.proofs.Seeking.{start, not_there, found, one_less, as_many}
use Rattle.taking.proofs.route_line.Goals as goal
use Rattle.taking.proofs.route_line.Goals.{then-is_route+else-left-eq0, else-is_route}

pub loop-at-init : goal.loop-at-init
loop-at-init c = start _ _

pub returns-then-left-eq0 : goal.returns-then-left-eq0
returns-then-left-eq0 c = found c.loop-at.invariant c.loop-at-test.true _ c.read_at-read.ensures _ c.is_route.ensures c.if-is_route.true c.if-left-eq0.true

pub overflow_sub-left : goal.overflow_sub-left
overflow_sub-left c = omega arith

pub overflow_add-n : goal.overflow_add-n
overflow_add-n c = omega (arith, c.loop-at.invariant.numbered, c.loop-at.invariant.within, c.requires)

pub loop-at-smaller : goal.loop-at-smaller
loop-at-smaller c = let r = read _ _ c.loop-at-test.true _ c.read_at-read.ensures in omega (arith, r.further, r.within)

pub loop-at-preserved : goal.loop-at-preserved
loop-at-preserved c =
    elim c.if-is_route.branch [
      | then-is_route+else-left-eq0 w ↦ rw w.left-is (one_less c.loop-at.invariant c.loop-at-test.true _ c.read_at-read.ensures _ c.is_route.ensures w.if-is_route.true w.if-left-eq0.false)
      | else-is_route w ↦ rw w.left-is (as_many c.loop-at.invariant c.loop-at-test.true _ c.read_at-read.ensures _ c.is_route.ensures w.if-is_route.false)
    ]

pub returns : goal.returns
returns c = not_there c.loop-at.invariant c.loop-at-test.false
