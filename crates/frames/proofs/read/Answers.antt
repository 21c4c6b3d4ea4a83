-- `frames::read` meets its contract: a book that passes the test is read by; another is refused before anything else.
-- Assumes nothing.
use mathlib.Core.Path.{◌≡◌}
use mathlib.Core.Bool.{true, false}
use Rattle.std.proofs.Common.{rules}
use Rattle.books.specs.Words.{messages_taken_spec}
use Rattle.frames.proofs.Entries.{read_no_book, read_book}
use Rattle.frames.proofs.read.Goals as goal

pub returns-then-not-taken : goal.returns-then-not-taken
returns-then-not-taken c = let a = c.args in
    let no : messages_taken_spec a.book.now ≡ false = search rules in
    read_no_book a.book.now a.identifier a.frame.now (record { raws = a.raws.now; classes = a.classes.now; thousandths = a.thousandths.now }) no

pub returns : goal.returns
returns c = let a = c.args in
    let yes : messages_taken_spec a.book.now ≡ true = search rules in
    read_book a.book.now a.identifier a.frame.now (record { raws = a.raws.now; classes = a.classes.now; thousandths = a.thousandths.now }) _ yes c.read_tested.ensures
