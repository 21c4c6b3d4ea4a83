-- `masks::has` meets its contract: a shift and the lowest bit. Assumes nothing.
use mathlib.Core.Path.{ap}
use Prim.Native.Nat.{ℕ, ◌/◌, ◌^◌}
use lib.Bits.{and_mask}
use lib.Dec.{eqb}
use Rattle.masks.specs.Bit.{bit}
use Rattle.masks.proofs.has.Goals as goal

pub returns : goal.returns
unfolding bit
returns c = ap (λ (n : ℕ). eqb n 1) (and_mask (c.args.m / 2 ^ c.args.k) 1)
