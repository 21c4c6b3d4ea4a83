-- `book_writer::lines::put_message_lines` meets its contract: each turn writes the next message, and the others are left. Assumes nothing.
use lib.ListN.{drop}
use Rattle.books.specs.Words.{messages_of}
use Rattle.reading.specs.Written.{message_lines}
use Rattle.book_writer.proofs.Messages.{MessagesLeft}
use Rattle.book_writer.proofs.lines.put_message_lines.Given as goal

abbrev pub invariant-loop-i : goal.invariant-loop-i
invariant-loop-i l =
    MessagesLeft l.initial.out (message_lines (messages_of l.book.words.now)) l.signals.firsts.now l.signals.seconds.now l.out l.next l.begin
    (drop l.i l.ids) (drop l.i l.ends)
