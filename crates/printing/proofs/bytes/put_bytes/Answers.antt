-- `printing::bytes::put_bytes` meets its contract: writing what is left gives the final list. Assumes nothing.
use Rattle.printing.proofs.Puts.{none_written, byte_written}
use Rattle.printing.proofs.bytes.put_bytes.Goals as goal

pub loop-i-init : goal.loop-i-init
loop-i-init c = none_written _ _ _

pub loop-i-preserved : goal.loop-i-preserved
loop-i-preserved c = byte_written c.loop-i.invariant c.loop-i-test.true
