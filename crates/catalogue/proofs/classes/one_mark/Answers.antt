-- `catalogue::classes::one_mark` meets its contract: one mark is two, of which the last is none.
-- Assumes nothing.
use mir.Syntax.{w32}
use mir.ValLaws.{to_z-of_z}
use borrow.Author.Rules.{rules}
use Rattle.catalogue.proofs.Marks.{no_code}
use Rattle.catalogue.proofs.classes.one_mark.Goals as goal

pub two_marks-requires : goal.two_marks-requires
two_marks-requires c = search (rules, no_code)

pub returns : goal.returns
returns c = rw (to_z-of_z w32 c.args.offset c.ranges.offset) at c.two_marks.ensures
