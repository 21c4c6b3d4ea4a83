-- `gateway_checker::judge` meets its contract: the verdict on the numbers is that on the places. Assumes nothing.
use mathlib.Core.Path.{refl}
use Prim.Native.Nat.{◌+◌, ◌≤◌}
use native.Mathlib.Omega.{arith}
use lib.ListN.{length}
use Rattle.gateway_checker.proofs.Numbering.{low_numbers, judged_places}
use Rattle.gateway_checker.proofs.judge.Goals as goal

pub invariant_of-judge_numbered : goal.invariant_of-judge_numbered
invariant_of-judge_numbered c =
    let froms = c.args.froms.now in
    let room : length froms + length froms ≤ length c.number_all.new.numbers = omega (arith, c.requires.0, c.number_all.ensures.long) in
    record { numbers = low_numbers froms c.args.tos.now _ _ _ c.requires.1 c.number_all.ensures.numbered room refl refl c.requires.0 }

pub returns : goal.returns
returns c =
    let froms = c.args.froms.now in
    let room : length froms + length froms ≤ length c.number_all.new.numbers = omega (arith, c.requires.0, c.number_all.ensures.long) in
    judged_places froms c.args.tos.now _ _ _ c.requires.1 c.number_all.ensures.numbered room refl refl c.judge_numbered.result c.judge_numbered.ensures
