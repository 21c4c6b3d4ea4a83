-- `punnetcrest::classing::pc_class` meets its contract: the class of the count decides what is returned and what is left. Assumes nothing.
use mir.Syntax.{w64}
use mir.ValLaws.{to_z-of_z}
use Rattle.punnetcrest.proofs.ClassNumbers.{refused_3, refused_26, class_given}
use borrow.Author.Rules.{rules}
use Rattle.punnetcrest.proofs.classing.pc_class.Goals as goal

pub returns-then-code-eq-NOT_IN_CATALOGUE : goal.returns-then-code-eq-NOT_IN_CATALOGUE
returns-then-code-eq-NOT_IN_CATALOGUE c = refused_3 _ _ _ _ c.class_numbers-reading.ensures c.if-code-eq-NOT_IN_CATALOGUE.true

pub returns-then-code-eq-TOO_WIDE : goal.returns-then-code-eq-TOO_WIDE
returns-then-code-eq-TOO_WIDE c = refused_26 _ _ _ _ c.class_numbers-reading.ensures c.if-code-eq-TOO_WIDE.true

pub returns : goal.returns
returns c = rw (to_z-of_z w64 c.class_numbers-reading.result (search rules)) (class_given _ _ _ _ c.class_numbers-reading.ensures c.if-code-eq-NOT_IN_CATALOGUE.false c.if-code-eq-TOO_WIDE.false)
