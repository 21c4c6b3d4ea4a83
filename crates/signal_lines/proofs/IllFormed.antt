-- The bytes of the constant `ILL_FORMED_LINE` are the line that an ill-formed line gives. Assumes nothing.
use mathlib.Core.Path.{◌≡◌, refl}
use mathlib.Core.List.{List, [], ◌∷◌}
use Prim.Native.Nat.{ℕ}
use Rattle.numerals.specs.Written.{digit_byte_spec, digits_of_spec}
use Rattle.parts.specs.Joined.{join}
use Rattle.printing.specs.Decimal.{digit_count_spec, digits_within, natural_text}
use Rattle.signal_lines.specs.Printed.{printed_line, ill_formed_line}

pub spelt : ◌≡◌ {A = List ℕ} (110 ∷ 111 ∷ 9 ∷ 50 ∷ 48 ∷ 10 ∷ []) ill_formed_line
unfolding printed_line join natural_text digit_count_spec digits_within digits_of_spec digit_byte_spec
spelt = refl
