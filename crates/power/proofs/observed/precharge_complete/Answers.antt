-- `power::observed::precharge_complete` meets its contract: two counts of 32 bits have a product of 64. Assumes nothing.
use Prim.Native.Nat.{◌*◌, ◌≤◌}
use native.Mathlib.Nat.{mul-le-mul}
use native.Mathlib.Omega.{arith}
use mir.Syntax.{w32}
use mir.Val.{Fits}
use Rattle.power.specs.Observed.{precharge_complete_spec}
use borrow.Author.Rules.{rules}
use Rattle.power.proofs.observed.precharge_complete.Goals as goal

pub overflow_mul-needed : goal.overflow_mul-needed
overflow_mul-needed c =
    let share_fits : Fits w32 c.hundredths.result = search rules in
    let inside_fits : Fits w32 c.args.inside.0 = search rules in
    let product : c.from.result * c.from-2.result ≤ 4294967295 * 4294967295 = mul-le-mul {n₂ = 4294967295} {m₂ = 4294967295} (omega (arith, share_fits, c.from.ensures)) (omega (arith, inside_fits, c.from-2.ensures)) in
    record { fits = omega (arith, product) }

pub returns : goal.returns
unfolding precharge_complete_spec
returns c = cc
