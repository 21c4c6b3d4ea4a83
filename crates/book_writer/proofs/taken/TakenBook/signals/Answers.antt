-- `book_writer::taken::TakenBook::signals` meets its contract. Assumes nothing.
use mathlib.Core.Path.{◌∙◌}
use native.Mathlib.Omega.{arith}
use Rattle.book_writer.proofs.Shown.{lent, signals_counted, numbers_shown, starts_shown}
use Rattle.book_writer.proofs.taken.TakenBook.signals.Goals as goal

pub first-requires : goal.first-requires
first-requires c = omega (arith, signals_counted _ c.args.self.now.taken.messages, c.numbers.ensures.1, c.signal_count-count.ensures)

pub returns-clause-numbers : goal.returns-clause-numbers
returns-clause-numbers c = c.first.ensures.0 ∙ lent c.signal_count-count.ensures c.numbers.ensures.0 ∙ numbers_shown _ c.args.self.now.taken.messages

pub returns-clause-starts : goal.returns-clause-starts
returns-clause-starts c = c.first-2.ensures.0 ∙ lent c.signal_count-count.ensures c.starts.ensures.0 ∙ starts_shown _ c.args.self.now.taken.messages
