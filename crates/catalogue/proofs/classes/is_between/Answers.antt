-- `catalogue::classes::is_between` meets its contract.
-- Assumes nothing.
use borrow.Author.Tests.{le-leb, lt-leb}
use Rattle.catalogue.specs.Class.{between}
use Rattle.catalogue.proofs.classes.is_between.Goals as goal

pub returns-then-first-count : goal.returns-then-first-count
unfolding between
returns-then-first-count c = simp (le-leb _ _ c.if-first-count.true)

pub returns-else-first-count : goal.returns-else-first-count
unfolding between
returns-else-first-count c = simp (lt-leb _ _ c.if-first-count.false)
