-- `book_writer::taken::TakenBook::ends` meets its contract. Assumes nothing.
use mathlib.Core.Path.{◌∙◌}
use native.Mathlib.Omega.{arith}
use Rattle.book_writer.proofs.Shown.{lent, messages_counted, ends_shown}
use Rattle.book_writer.proofs.taken.TakenBook.ends.Goals as goal

pub first-requires : goal.first-requires
first-requires c = omega (arith, messages_counted _ c.args.self.now.taken.messages, c.ends.ensures.1, c.message_count.ensures)

pub returns : goal.returns
returns c = c.first.ensures.0 ∙ lent c.message_count.ensures c.ends.ensures.0 ∙ ends_shown _ c.args.self.now.taken.messages
