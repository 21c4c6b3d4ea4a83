-- `gateway_checker::judge_numbered` meets its contract: what the searches found over the masks is what there is to find over chains. Assumes nothing.
use native.Mathlib.Omega.{arith}
use Rattle.gateway_checker.proofs.Judging.{loop_by, sound_by, doubling_by, doubling_there}
use Rattle.gateway_checker.proofs.judge_numbered.Goals as goal

pub fill-requires : goal.fill-requires
fill-requires c = omega (arith, c.args.table.now.numbers.from.few)

pub returns-in-Some : goal.returns-in-Some
returns-in-Some c = loop_by _ _ _ c.fill.ensures.led _ c.in-Some.ensures.1 c.in-Some.ensures.0

pub returns-then-up-eq0 : goal.returns-then-up-eq0
returns-then-up-eq0 c = sound_by _ _ _ c.fill.ensures.led _ c.in_default.ensures (omega arith) _ c.forking-up.ensures c.if-up-eq0.true

pub returns-in-Some-first_doubling : goal.returns-in-Some-first_doubling
returns-in-Some-first_doubling c =
    let by = doubling_by _ _ _ c.fill.ensures.led _ c.in_default.ensures (omega arith) _ c.forking-up.ensures c.if-up-eq0.false c.args.table.now.numbers in
    by _ _ _ _ c.forking.ensures c.either-forks.ensures c.starts_of-places.ensures c.in-Some-first_doubling.ensures.1

pub returns-in-None : goal.returns-in-None
returns-in-None c =
    let there = doubling_there _ _ _ c.fill.ensures.led _ c.in_default.ensures (omega arith) _ c.forking-up.ensures c.if-up-eq0.false c.args.table.now.numbers _ _ _ in
    absurd (there c.forking.ensures c.either-forks.ensures c.starts_of-places.ensures c.in-None.ensures)
