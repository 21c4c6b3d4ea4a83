-- `book_writer::tables_taken` meets its contract: both tests tell. Assumes nothing.
use mathlib.Core.Path.{sym, ◌∙◌}
use mathlib.Core.Bool.{true≢false}
use Rattle.book_writer.proofs.Whole.{all_told}
use Rattle.book_writer.proofs.tables_taken.Goals as goal

pub returns-then-not-messages_taken : goal.returns-then-not-messages_taken
returns-then-not-messages_taken c = λ t. true≢false (sym (c.messages_taken.ensures ∙ t.messages) ∙ c.if-not-messages_taken.true)

pub returns : goal.returns
returns c = all_told _ (sym c.messages_taken.ensures ∙ c.if-not-messages_taken.false) c.routes_taken.result c.routes_taken.ensures
