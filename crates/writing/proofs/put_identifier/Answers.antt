-- `writing::put_identifier` meets its contract. Assumes nothing.
use mathlib.Core.Path.{refl}
use Rattle.numerals.specs.Written.{identifier_text}
use Rattle.writing.proofs.put_identifier.Goals as goal

pub returns : goal.returns
unfolding identifier_text
returns c = (refl, c.put_digits.ensures)
