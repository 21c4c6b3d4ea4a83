-- `book_writer::write` meets its contract: all tables are tested first, the length is known before a byte is written, and what is written
-- is the text. Assumes nothing.
use native.Mathlib.Omega.{arith}
use Rattle.chains.proofs.Bools.{told_yes, told_no}
use Rattle.printing.proofs.Puts.{put_length}
use Rattle.book_writer.specs.Answers.{not_a_book, by_tables, no_room}
use Rattle.book_writer.proofs.Whole.{whole_long, head_fits, tail_fits, ends_there, wrote}
use Rattle.book_writer.proofs.write.Goals as goal

pub returns-then-not-tables_taken : goal.returns-then-not-tables_taken
returns-then-not-tables_taken c = not_a_book (told_no c.tables_taken.result c.tables_taken.ensures c.if-not-tables_taken.true)

pub invariant_of-taken : goal.invariant_of-taken
invariant_of-taken c = record { taken = told_yes c.tables_taken.result c.tables_taken.ensures c.if-not-tables_taken.false }

pub returns-then-room-length : goal.returns-then-room-length
returns-then-room-length c =
    let t = told_yes c.tables_taken.result c.tables_taken.ensures c.if-not-tables_taken.false in
    by_tables t (no_room (omega (arith, c.if-room-length.true, c.text_length-length.ensures)))

pub put_message_lines-routes-requires : goal.put_message_lines-routes-requires
put_message_lines-routes-requires c =
    let t = told_yes c.tables_taken.result c.tables_taken.ensures c.if-not-tables_taken.false in
    head_fits _ t _ (omega (arith, c.if-room-length.false, c.text_length-length.ensures))

pub put_route_lines-requires : goal.put_route_lines-requires
put_route_lines-requires c =
    let t = told_yes c.tables_taken.result c.tables_taken.ensures c.if-not-tables_taken.false in
    tail_fits _ t _ (omega (arith, c.if-room-length.false, c.text_length-length.ensures)) c.put_message_lines-routes.ensures (put_length c.put_message_lines-routes.ensures)
    (omega (arith, whole_long _ t, ends_there _ t _ (omega (arith, c.if-room-length.false, c.text_length-length.ensures)) c.put_message_lines-routes.ensures (put_length c.put_message_lines-routes.ensures)))

pub returns : goal.returns
returns c =
    let t = told_yes c.tables_taken.result c.tables_taken.ensures c.if-not-tables_taken.false in
    by_tables t (wrote _ t _ (omega (arith, c.if-room-length.false, c.text_length-length.ensures)) c.put_message_lines-routes.ensures (put_length c.put_message_lines-routes.ensures) c.put_route_lines.ensures c.text_length-length.ensures)
