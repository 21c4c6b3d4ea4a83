-- `answer_line::put_refused` meets its contract: its pieces, one after the other, are the line. Assumes nothing.
use native.Mathlib.Omega.{arith}
use Rattle.printing.proofs.Puts.{put_length}
use Rattle.answer_line.proofs.Pieces.{refused_put}
use Rattle.answer_line.proofs.put_refused.Goals as goal

pub put_field-first-requires : goal.put_field-first-requires
put_field-first-requires c = omega (arith, c.requires, put_length c.put_bytes-word.ensures, c.put_bytes-word.ensures.now_at)

pub put_field-second-requires : goal.put_field-second-requires
put_field-second-requires c = omega (arith, c.requires, put_length c.put_bytes-word.ensures, c.put_bytes-word.ensures.now_at, put_length c.put_field-first.ensures.put, c.put_field-first.ensures.few)

pub put_byte-requires : goal.put_byte-requires
put_byte-requires c = omega (arith, c.requires, put_length c.put_bytes-word.ensures, c.put_bytes-word.ensures.now_at, put_length c.put_field-first.ensures.put, c.put_field-first.ensures.few, put_length c.put_field-second.ensures.put, c.put_field-second.ensures.few)

pub returns : goal.returns
returns c = rw (← c.from.ensures) (refused_put _ _ c.put_bytes-word.ensures c.put_field-first.ensures.put c.put_field-second.ensures.put c.put_byte.ensures)
