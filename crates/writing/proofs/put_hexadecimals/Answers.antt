-- `writing::put_hexadecimals` meets its contract: writing what is left gives the final list. Assumes nothing.
use native.Mathlib.Nat.{mod-lt}
use lib.Dec.{lit<}
use Rattle.writing.proofs.Left.{all_left, none_left, one_less}
use Rattle.writing.proofs.LookUp.{looked_up}
use Rattle.writing.proofs.put_hexadecimals.Goals as goal

pub loop-j-init : goal.loop-j-init
loop-j-init c = all_left _ _ _ _ _ c.requires

pub bounds-bytes-m : goal.bounds-bytes-m
bounds-bytes-m c = mod-lt c.loop-j.m (lit< tt)

pub loop-j-preserved : goal.loop-j-preserved
loop-j-preserved c = one_less _ _ _ c.loop-j.invariant c.loop-j-test.true (lit< tt) (looked_up _ (mod-lt c.loop-j.m (lit< tt)))

pub returns : goal.returns
returns c = none_left _ _ c.loop-j.invariant c.loop-j-test.false
