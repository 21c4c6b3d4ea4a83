-- `signal_lines::put_count` meets its contract: a word, a tab, a number, a newline. Assumes nothing.
use native.Mathlib.Omega.{arith}
use Rattle.printing.proofs.Puts.{put_within}
use Rattle.printing.proofs.Spelling.{natural_few}
use Rattle.signal_lines.specs.Printed.{end_room}
use Rattle.signal_lines.proofs.Fields.{put_more, put_last}
use Rattle.signal_lines.proofs.put_count.Goals as goal

pub put_byte-requires : goal.put_byte-requires
put_byte-requires c = omega (arith, natural_few c.args.count (omega (arith, c.ranges.count.fits)), c.put_natural-end.ensures.now_at, c.put_byte-number.ensures.now_at, c.put_bytes-after_word.ensures.now_at)

pub returns : goal.returns
returns c = put_within end_room (put_more _ _ c.put_bytes-after_word.ensures c.put_byte-number.ensures (put_last c.put_natural-end.ensures c.put_byte.ensures)) (omega (arith, natural_few c.args.count (omega (arith, c.ranges.count.fits)), c.put_byte.ensures.now_at, c.put_natural-end.ensures.now_at, c.put_byte-number.ensures.now_at, c.put_bytes-after_word.ensures.now_at))
