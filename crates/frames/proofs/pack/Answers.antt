-- `frames::pack` meets its contract: a book that passes the test is packed by; another is refused before anything else.
-- Assumes nothing.
use mathlib.Core.Path.{sym, ◌∙◌}
use Rattle.frames.proofs.Entries.{pack_no_book, pack_book}
use Rattle.frames.proofs.pack.Goals as goal

pub returns-then-not-messages_taken : goal.returns-then-not-messages_taken
returns-then-not-messages_taken c = let a = c.args in
    pack_no_book a.book.now a.identifier a.values.now a.frame.now (sym c.messages_taken.ensures ∙ c.if-not-messages_taken.true)

pub returns : goal.returns
returns c = let a = c.args in
    pack_book a.book.now a.identifier a.values.now a.frame.now _ (sym c.messages_taken.ensures ∙ c.if-not-messages_taken.false) c.pack_tested.ensures
