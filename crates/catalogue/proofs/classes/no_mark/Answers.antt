-- `catalogue::classes::no_mark` meets its contract: no mark is one that has no code.
-- Assumes nothing.
use mir.Syntax.{w32}
use mir.ValLaws.{to_z-of_z}
use borrow.Author.Rules.{rules}
use Rattle.catalogue.proofs.Marks.{no_code}
use Rattle.catalogue.proofs.classes.no_mark.Goals as goal

pub one_mark-requires : goal.one_mark-requires
one_mark-requires c = search (rules, no_code)

pub returns : goal.returns
returns c = rw (to_z-of_z w32 c.args.offset c.ranges.offset) at c.one_mark.ensures
