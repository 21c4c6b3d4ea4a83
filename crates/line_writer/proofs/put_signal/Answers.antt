-- `line_writer::put_signal` meets its contract. Assumes nothing.
use native.Mathlib.Omega.{arith}
use Rattle.printing.proofs.Puts.{put_decimal_law}
use Rattle.reading.proofs.LineLengths.{signal_long}
use Rattle.line_writer.proofs.Left.{signal_numbers_law}
use Rattle.line_writer.proofs.Pieces.{signal_put}
use Rattle.line_writer.proofs.put_signal.Goals as goal

pub put_kind-first-requires : goal.put_kind-first-requires
put_kind-first-requires c = omega (arith, c.requires.room, signal_long c.args.number c.args.start)

pub put_decimal-after_first-requires : goal.put_decimal-after_first-requires
put_decimal-after_first-requires c = (let d = signal_numbers_law _ _ c.requires.digits in omega (arith, d.0, d.1), omega (arith, c.requires.room, signal_long c.args.number c.args.start, c.put_kind-first.ensures.now_at))

pub put_byte-second-requires : goal.put_byte-second-requires
put_byte-second-requires c = omega (arith, c.requires.room, signal_long c.args.number c.args.start, c.put_kind-first.ensures.now_at, c.put_decimal-after_first.ensures.0)

pub put_decimal-end-requires : goal.put_decimal-end-requires
put_decimal-end-requires c = ((signal_numbers_law _ _ c.requires.digits).1, omega (arith, c.requires.room, signal_long c.args.number c.args.start, c.put_kind-first.ensures.now_at, c.put_decimal-after_first.ensures.0, c.put_byte-second.ensures.now_at))

pub put_byte-requires : goal.put_byte-requires
put_byte-requires c = omega (arith, c.requires.room, signal_long c.args.number c.args.start, c.put_kind-first.ensures.now_at, c.put_decimal-after_first.ensures.0, c.put_byte-second.ensures.now_at, c.put_decimal-end.ensures.0)

pub returns : goal.returns
returns c = signal_put _ _ c.put_kind-first.ensures (put_decimal_law _ c.put_decimal-after_first.ensures) c.put_byte-second.ensures (put_decimal_law _ c.put_decimal-end.ensures) c.put_byte.ensures
