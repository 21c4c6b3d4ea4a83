-- `zeros::zero_past` meets its contract: the part from the count on is all that is past it. Assumes nothing.
use Prim.Native.Nat.{◌-◌}
use mathlib.Core.Path.{ap, ◌∙◌}
use native.Mathlib.Omega.{arith}
use lib.ListN.{length, drop, length-drop}
use lib.Seq.{take_all}
use Rattle.zeros.specs.Zeros.{zeros}
use Rattle.zeros.proofs.zero_past.Goals as goal

pub returns : goal.returns
returns c =
    let at-args = c.args in
    c.all_zero.ensures ∙ ap zeros (take_all (length at-args.column.now - at-args.count) (drop at-args.count at-args.column.now) (omega (arith, length-drop at-args.count at-args.column.now)))
