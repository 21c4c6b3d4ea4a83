-- `bits::store` meets its contract: storing what is left gives the number's bytes. Assumes nothing.
use mathlib.Core.Path.{◌≡◌}
use lib.ListN.{drop}
use lib.Seq.{sets}
use Rattle.bits.specs.Word.{bytes_of}
use Rattle.bits.proofs.store.Given as goal

abbrev pub invariant-loop-i : goal.invariant-loop-i
invariant-loop-i l = sets l.frame l.i (drop l.i l.byte-items) ≡ bytes_of l.word
