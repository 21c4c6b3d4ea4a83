-- `signal_lines::put_refused` meets its contract: the identifier, a tab, and the rest of the line. Assumes nothing.
use native.Mathlib.Omega.{arith}
use Rattle.printing.proofs.Puts.{put_within, put_identifier_law}
use Rattle.signal_lines.specs.Printed.{listed_line_room}
use Rattle.signal_lines.proofs.Fields.{put_more}
use Rattle.signal_lines.proofs.put_refused.Goals as goal

pub returns : goal.returns
returns c = put_within listed_line_room (put_more _ _ (put_identifier_law _ c.put_identifier-after_identifier.ensures) c.put_byte-second.ensures c.put_count.ensures.put) (omega (arith, c.put_count.ensures.short, c.put_count.ensures.put.now_at, c.put_byte-second.ensures.now_at, c.put_identifier-after_identifier.ensures.0))
