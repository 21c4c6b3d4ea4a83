-- `reach::hand` meets its contract: what the start gets is what the route leads to. Assumes nothing.
use Prim.Native.Nat.{◌<◌}
use native.Mathlib.Omega.{arith}
use lib.ListN.{length}
use Rattle.reach.proofs.Handed.{handing_one}
use Rattle.reach.proofs.hand.Goals as goal

pub returns : goal.returns
returns c =
    let table = c.args.table.now in
    let start = c.from-start in
    let end = c.from-end in
    let low : start.result < length c.args.masks.now = omega (arith, start.ensures, table.numbers.from.low c.args.j c.requires) in
    handing_one table.starts.now table.ends.now c.args.masks.now c.args.j start.result end.result c.with.result c.either-has.result
    start.ensures end.ensures c.requires low c.with.ensures c.either-has.ensures
