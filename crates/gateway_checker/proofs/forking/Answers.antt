-- `gateway_checker::forking` meets its contract: what was seen is what the routes passed lead on to, by where they start. Assumes nothing.
use mathlib.Core.Path.{sym, ◌∙◌, subst}
use Prim.Native.Nat.{◌+◌, ◌*◌, ◌<◌}
use native.Mathlib.Omega.{arith}
use lib.ListN.{set}
use Rattle.masks.specs.Bit.{width}
use Rattle.gateway_checker.proofs.Gathering.{Gathering, gathering_start, gathering_fork, gathering_keep, gathering_end}
use Rattle.gateway_checker.proofs.forking.Goals as goal
use Rattle.gateway_checker.proofs.forking.Goals.{then-meet, else-meet}

pub loop-t-init : goal.loop-t-init
loop-t-init c = gathering_start _ _ _

pub loop-t-preserved : goal.loop-t-preserved
loop-t-preserved c =
    let at-args = c.args in
    let at_meet = c.meet in
    let at-start = c.from-start in
    let low = at-args.table.now.numbers.from.low c.nth-a.result c.nth-a.ensures.1 in
    let below : at-start.result < 2 * width = omega (arith, at-start.ensures, low) in
    let at-nth = c.nth-a in
    let at-loop-test = c.loop-t-test in
    let at-loop = c.loop-t in
    let starts = at-args.table.now.starts.now in
    let onward = at-args.onward.now in
    let seen = at-loop.seen in
    let t = at-loop.t in
    let a = at-nth.result in
    let s = at-start.result in
    let v = c.either.result in
    let Then = Gathering starts onward at-args.down (t + 1) (set seen s v) in
    let fork = gathering_fork starts onward at-args.down t seen at-loop.forks at-loop.invariant at-loop-test.true a s at-nth.ensures.0 at-start.ensures below v c.either.ensures in
    let keep = gathering_keep starts onward at-args.down t seen at-loop.forks at-loop.invariant at-loop-test.true a s at-nth.ensures.0 at-start.ensures below v c.either.ensures in
    elim c.if-meet.branch [
      | then-meet w ↦ subst Then (sym w.forks-is) (fork w.with-forks.result (sym at_meet.ensures ∙ w.if-meet.true) w.with-forks.ensures)
      | else-meet w ↦ subst Then (sym w.forks-is) (keep (sym at_meet.ensures ∙ w.if-meet.false))
    ]

pub returns : goal.returns
returns c = gathering_end _ _ _ _ _ _ c.loop-t.invariant c.loop-t-test.false
