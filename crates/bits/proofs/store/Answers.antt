-- `bits::store` meets its contract: storing what is left gives the number's bytes. Assumes nothing.
use mathlib.Core.Path.{ap, sym, ◌∙◌}
use Prim.Native.Nat.{◌≤◌, ◌<◌}
use native.Mathlib.Numerals.{add-one}
use native.Mathlib.Omega.{arith}
use lib.ListN.{length, drop_of_length-le}
use lib.Seq.{drop-cons}
use Rattle.bits.proofs.Bytes.{bytes_by_worth}
use Rattle.bits.proofs.Weights.{sets_all}
use Rattle.bits.proofs.store.Goals as goal

pub loop-i-init : goal.loop-i-init
loop-i-init c = sets_all c.to_le_bytes.result c.args.frame.now (ap length c.to_le_bytes.ensures ∙ sym c.requires) ∙ c.to_le_bytes.ensures ∙ bytes_by_worth c.args.word

pub loop-i-preserved : goal.loop-i-preserved
loop-i-preserved c =
    let h : c.loop-i.i < length c.to_le_bytes.result = omega (arith, c.loop-i-test.true, ap length c.to_le_bytes.ensures) in
    rw (add-one c.loop-i.i) (rw (drop-cons c.to_le_bytes.result c.loop-i.i 0 h) at c.loop-i.invariant)

pub returns : goal.returns
returns c =
    let h : length c.to_le_bytes.result ≤ c.loop-i.i = omega (arith, c.loop-i-test.false, ap length c.to_le_bytes.ensures) in
    rw (drop_of_length-le c.to_le_bytes.result h) at c.loop-i.invariant
