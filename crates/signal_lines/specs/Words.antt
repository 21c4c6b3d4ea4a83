-- "The words are `value`, `invalid`, `absent`, `error`, `reserved`, `outside`": one for each class, as its bytes;
-- and the figures beside it. Assumes nothing.
use Rattle.std.specs.Prelude.{List, [], ◌∷◌, ℕ, Float, Result, Ok, Err}
use Rattle.std.specs.Float.{binary64}
use Rattle.std.specs.Float.Ieee.{to_bits}
use Rattle.catalogue.specs.declared.Class.{Class}
use Rattle.catalogue.specs.declared.Class.TheVariants.{Value, Invalid, Absent, Error, Reserved, Outside}
use Rattle.catalogue.specs.declared.NoClass.{NoClass}
use Rattle.catalogue.specs.declared.Thousandths.{Thousandths}
use Rattle.doubles.specs.Doubles.{in_units_spec}
use Rattle.numerals.specs.Written.{digits_of_spec}
use Rattle.printing.specs.Decimal.{natural_text, signed_text}
use Rattle.signal_lines.specs.declared.figures.Figures.{Figures}
use Rattle.signal_lines.specs.declared.figures.Figures.TheVariants.{InThousandths, AsDoubles}

abbrev pub value_word : List ℕ
value_word = 118 ∷ 97 ∷ 108 ∷ 117 ∷ 101 ∷ []  -- value

abbrev pub invalid_word : List ℕ
invalid_word = 105 ∷ 110 ∷ 118 ∷ 97 ∷ 108 ∷ 105 ∷ 100 ∷ []  -- invalid

abbrev pub absent_word : List ℕ
absent_word = 97 ∷ 98 ∷ 115 ∷ 101 ∷ 110 ∷ 116 ∷ []  -- absent

abbrev pub error_word : List ℕ
error_word = 101 ∷ 114 ∷ 114 ∷ 111 ∷ 114 ∷ []  -- error

abbrev pub reserved_word : List ℕ
reserved_word = 114 ∷ 101 ∷ 115 ∷ 101 ∷ 114 ∷ 118 ∷ 101 ∷ 100 ∷ []  -- reserved

abbrev pub outside_word : List ℕ
outside_word = 111 ∷ 117 ∷ 116 ∷ 115 ∷ 105 ∷ 100 ∷ 101 ∷ []  -- outside

-- the word of a refusal
abbrev pub no_word : List ℕ
no_word = 110 ∷ 111 ∷ []  -- no

-- the word of a class; a signal that a book places is in the catalogue and its count is no wider, so a refusal has none
abbrev pub class_word : Result Class NoClass → List ℕ
class_word (Ok (Value t)) = value_word
class_word (Ok (Invalid r)) = invalid_word
class_word (Ok (Absent r)) = absent_word
class_word (Ok (Error r)) = error_word
class_word (Ok (Reserved r)) = reserved_word
class_word (Ok (Outside r)) = outside_word
class_word (Err e) = []

-- ---- the figures beside the word

-- "the bits of the double as 16 hex digits (0-9 A-F, highest first)"
abbrev pub double_digits : ℕ
double_digits = 16

unfoldable pub double_text : Float → List ℕ
double_text x = digits_of_spec 16 double_digits (to_bits binary64 x)

-- the figures of a value: its thousandths, or the double "in place of the thousandths"
abbrev pub value_figures : Figures → Thousandths → List ℕ
value_figures InThousandths t = signed_text t.0
value_figures AsDoubles t = double_text (in_units_spec t)

-- "the thousandths of a value or the raw count of any other class"
abbrev pub figure_of : Figures → Result Class NoClass → List ℕ
figure_of figures (Ok (Value t)) = value_figures figures t
figure_of figures (Ok (Invalid r)) = natural_text r.0
figure_of figures (Ok (Absent r)) = natural_text r.0
figure_of figures (Ok (Error r)) = natural_text r.0
figure_of figures (Ok (Reserved r)) = natural_text r.0
figure_of figures (Ok (Outside r)) = natural_text r.0
figure_of figures (Err e) = natural_text 0
