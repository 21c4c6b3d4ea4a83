-- `writer_vectors::answer::stayed` is safe: it counts no more than it has passed. Assumes nothing.
use Rattle.std.proofs.Common.{◌≤◌}
use Rattle.writer_vectors.proofs.answer.stayed.Given as goal

abbrev pub invariant-loop-byte : goal.invariant-loop-byte
invariant-loop-byte l = l.count ≤ l.byte-index
