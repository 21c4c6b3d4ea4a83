-- `catalogue::by_shape::class_of` meets its contract: a number that is more than the count cut from it is too wide.
-- Assumes nothing.
use mathlib.Core.Path.{sym, ap, ◌∙◌}
use Rattle.catalogue.specs.declared.Cut.{Cut}
use Rattle.catalogue.proofs.Classing.{class_cut, cut_too_wide}
use Rattle.catalogue.proofs.by_shape.class_of.Goals as goal

pub returns-then-count-raw : goal.returns-then-count-raw
returns-then-count-raw c = cut_too_wide _ _ (λ e. c.if-count-raw.true (ap (λ (k : Cut). k.raw.0) c.cut_of-cut.ensures ∙ e))

pub returns : goal.returns
returns c = ap (λ (k : Cut). k.class) c.cut_of-cut.ensures ∙ class_cut _ _ (sym (ap (λ (k : Cut). k.raw.0) c.cut_of-cut.ensures) ∙ c.if-count-raw.false)
