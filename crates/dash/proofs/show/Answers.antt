-- `dash::show` meets its contract: the thousandths of every value are few. Assumes nothing.
use mathlib.Core.Path.{◌∙◌}
use mir.Syntax.{w64}
use mir.ValLaws.{to_z-of_z}
use borrow.Author.Rules.{rules}
use Rattle.dash.proofs.Coded.{few_numbers, numbers_drawn}
use Rattle.dash.proofs.show.Goals as goal

pub drawn-requires : goal.drawn-requires
drawn-requires c = rw (to_z-of_z w64 c.class_numbers-reading.result (search rules)) (few_numbers _ _ c.class_numbers-reading.ensures)

pub returns : goal.returns
returns c = c.drawn.ensures ∙ rw (to_z-of_z w64 c.class_numbers-reading.result (search rules)) (numbers_drawn _ _ c.class_numbers-reading.ensures)
