-- The lines of specs/Examples.antt say what stands there, computed. Assumes nothing.
use mathlib.Core.Path.{◌≡◌, refl}
use mathlib.Core.List.{map}
use Rattle.numerals.specs.Numeral.{digit_value, numeral_from, identifier, needless_zero, decimal}
use Rattle.parts.specs.Parts.{on_first, split}
use Rattle.line.specs.Meaning.{of_message, of_signal, of_route, of_kind, of_fields, line_meaning}
use Rattle.line.specs.Examples.{WorkedLine, worked_lines}

pub all : map (λ (w : WorkedLine). line_meaning w.line) worked_lines ≡ map (λ (w : WorkedLine). w.says) worked_lines
unfolding worked_lines line_meaning of_fields of_kind of_message of_signal of_route split on_first identifier decimal needless_zero numeral_from digit_value
all = refl
