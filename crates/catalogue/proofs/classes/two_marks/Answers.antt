-- `catalogue::classes::two_marks` meets its contract: two marks are three, of which the last is none.
-- Assumes nothing.
use mir.Syntax.{w32}
use mir.ValLaws.{to_z-of_z}
use borrow.Author.Rules.{rules}
use Rattle.catalogue.proofs.Marks.{no_code}
use Rattle.catalogue.proofs.classes.two_marks.Goals as goal

pub three_marks-requires : goal.three_marks-requires
three_marks-requires c = search (rules, no_code)

pub returns : goal.returns
returns c = rw (to_z-of_z w32 c.args.offset c.ranges.offset) at c.three_marks.ensures
