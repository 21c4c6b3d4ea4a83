-- `frame_lines::frame_of` meets its contract: at each `return` the tests that led there say which case holds. Assumes nothing.
use Rattle.std.proofs.Common.{◌≡◌, ◌*◌, length, drop}
use Rattle.frame_lines.proofs.Gathered.{Gathered}
use Rattle.frame_lines.proofs.frame_of.Given as goal

abbrev pub invariant-loop-pair : goal.invariant-loop-pair
invariant-loop-pair l = Gathered l.digits (length l.yielded) l.word × (l.pair-iterator.rest.now ≡ drop (2 * length l.yielded) l.digits) × (l.pair-iterator.size ≡ 2)
