-- `book_writer::lengths::text_length` meets its contract: as many times an M line, and the S and R lines. Assumes nothing.
use native.Mathlib.Omega.{arith}
use Rattle.books.specs.Words.{book_of}
use Rattle.reading.proofs.TextLengths.{text_long}
use Rattle.book_writer.proofs.Whole.{messages_count, signals_count, routes_count, signals_sum, routes_sum}
use Rattle.book_writer.proofs.lengths.text_length.Goals as goal

pub overflow_cast-messages : goal.overflow_cast-messages
overflow_cast-messages c = omega (arith, (messages_count _ c.args.book.now.taken c.ids.ensures).1)

pub overflow_mul-messages : goal.overflow_mul-messages
overflow_mul-messages c = omega (arith, (messages_count _ c.args.book.now.taken c.ids.ensures).1)

pub lines_length-signals-requires : goal.lines_length-signals-requires
lines_length-signals-requires c = signals_count _ c.args.book.now.taken c.signals.ensures.numbers

pub lines_length-routes-requires : goal.lines_length-routes-requires
lines_length-routes-requires c = routes_count _ c.args.book.now.taken c.routes.ensures.froms

pub overflow_add-result : goal.overflow_add-result
overflow_add-result c = omega (arith, (messages_count _ c.args.book.now.taken c.ids.ensures).1, (signals_sum _ c.args.book.now.taken c.signals.ensures.numbers c.signals.ensures.starts c.lines_length-signals.ensures).1)

pub overflow_add-result-2 : goal.overflow_add-result-2
overflow_add-result-2 c = omega (arith, (messages_count _ c.args.book.now.taken c.ids.ensures).1, (signals_sum _ c.args.book.now.taken c.signals.ensures.numbers c.signals.ensures.starts c.lines_length-signals.ensures).1, (routes_sum _ c.args.book.now.taken c.routes.ensures.froms c.routes.ensures.tos c.lines_length-routes.ensures).1)

pub returns : goal.returns
returns c =
    omega (
      arith,
      (messages_count _ c.args.book.now.taken c.ids.ensures).0,
      (signals_sum _ c.args.book.now.taken c.signals.ensures.numbers c.signals.ensures.starts c.lines_length-signals.ensures).0,
      (routes_sum _ c.args.book.now.taken c.routes.ensures.froms c.routes.ensures.tos c.lines_length-routes.ensures).0,
      text_long (book_of c.args.book.now.words.now),
    )
