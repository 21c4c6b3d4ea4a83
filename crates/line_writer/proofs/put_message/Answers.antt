-- `line_writer::put_message` meets its contract. Assumes nothing.
use native.Mathlib.Omega.{arith}
use Rattle.printing.proofs.Puts.{put_identifier_law}
use Rattle.reading.proofs.LineLengths.{message_long}
use Rattle.line_writer.proofs.Pieces.{message_put}
use Rattle.line_writer.proofs.put_message.Goals as goal

pub put_kind-value-requires : goal.put_kind-value-requires
put_kind-value-requires c = omega (arith, c.requires.room, message_long c.args.identifier)

pub put_identifier-end-requires : goal.put_identifier-end-requires
put_identifier-end-requires c = omega (arith, c.requires.room, message_long c.args.identifier, c.put_kind-value.ensures.now_at)

pub put_byte-requires : goal.put_byte-requires
put_byte-requires c = omega (arith, c.requires.room, message_long c.args.identifier, c.put_kind-value.ensures.now_at, c.put_identifier-end.ensures.0)

pub returns : goal.returns
returns c = message_put _ c.put_kind-value.ensures (put_identifier_law _ c.put_identifier-end.ensures) c.put_byte.ensures
