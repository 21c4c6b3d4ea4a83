-- `printing::bytes::put_bytes` meets its contract: writing what is left gives the final list. Assumes nothing.
use Rattle.printing.proofs.Puts.{Written}
use Rattle.printing.proofs.bytes.put_bytes.Given as goal

abbrev pub invariant-loop-i : goal.invariant-loop-i
invariant-loop-i l = Written l.initial.out l.at l.text l.out l.i
