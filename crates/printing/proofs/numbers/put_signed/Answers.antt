-- `printing::numbers::put_signed` meets its contract: a minus sign goes before the digits of a number below 0. Assumes nothing.
use mathlib.Core.Path.{ap, ◌∙◌}
use lib.IntN.{nat_abs}
use mir.Syntax.{w64}
use mir.ValLaws.{to_z-of_z}
use Rattle.printing.proofs.Signs.{negative, positive}
use Rattle.printing.proofs.Spelling.{negative_put, positive_put}
use Rattle.printing.proofs.numbers.put_signed.Goals as goal

pub returns-then-z-lt0 : goal.returns-then-z-lt0
returns-then-z-lt0 c = negative_put (c.unsigned_abs-n.ensures.value ∙ ap nat_abs (to_z-of_z w64 _ c.ranges.z)) (negative _ c.ranges.z c.if-z-lt0.true) c.put_byte-digits.ensures c.put_natural.ensures

pub returns : goal.returns
returns c = positive_put (c.unsigned_abs-n.ensures.value ∙ ap nat_abs (to_z-of_z w64 _ c.ranges.z)) (positive _ c.ranges.z c.if-z-lt0.false) c.put_natural-2.ensures
