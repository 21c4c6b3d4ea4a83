-- No line of the lister is longer than the room that is set aside for it. Assumes nothing.
use mathlib.Core.Path.{◌≡◌, ap, ◌∙◌}
use mathlib.Core.List.{List, [], ◌∷◌, ◌++◌}
use Prim.Native.Nat.{ℕ, suc, ◌+◌, ◌^◌, ◌≤◌, ◌<◌}
use native.Mathlib.Omega.{arith}
use lib.ListN.{length, length-append}
use mir.Syntax.{w64}
use mir.Val.{SFits}
use Rattle.std.specs.Prelude.{Result, Ok, Err}
use Rattle.catalogue.specs.declared.Class.{Class}
use Rattle.catalogue.specs.declared.Class.TheVariants.{Value, Invalid, Absent, Error, Reserved, Outside}
use Rattle.catalogue.specs.declared.NoClass.{NoClass}
use Rattle.catalogue.specs.Class.{carried_by}
use Rattle.numerals.specs.Written.{identifier_text}
use Rattle.numerals.proofs.Digits.{length_digits}
use Rattle.parts.specs.Parts.{tab, newline}
use Rattle.printing.specs.Decimal.{natural_text}
use Rattle.printing.proofs.Spelling.{natural_few}
use Rattle.signal_lines.specs.declared.figures.Figures.{Figures}
use Rattle.signal_lines.specs.Printed.{printed_line, reading_line, refused_frame_line, listed_line_room}
use Rattle.signal_lines.specs.Words.{no_word, class_word, figure_of}
use Rattle.signal_lines.proofs.Fields.{field_more, field_last}
use Rattle.signal_lines.proofs.Showing.{figure_few}

-- a field, its tab, and the rest of the line
more_long : (a b : List ℕ) (fs : List (List ℕ)) → length (printed_line (a ∷ b ∷ fs)) ≡ length a + suc (length (printed_line (b ∷ fs)))
more_long a b fs = ap length (field_more a b fs) ∙ length-append a ((tab ∷ []) ++ printed_line (b ∷ fs))

-- the last field and the newline
last_long : (a : List ℕ) → length (printed_line (a ∷ [])) ≡ length a + 1
last_long a = ap length (field_last a) ∙ length-append a (newline ∷ [])

identifier_long : (i : ℕ) → length (identifier_text i) ≡ 8
unfolding identifier_text
identifier_long i = length_digits 16 8 i

-- no class word is longer than `reserved`
word_short : (class : Result Class NoClass) → length (class_word class) ≤ 8
word_short (Ok (Value t)) = omega arith
word_short (Ok (Invalid raw)) = omega arith
word_short (Ok (Absent raw)) = omega arith
word_short (Ok (Error raw)) = omega arith
word_short (Ok (Reserved raw)) = omega arith
word_short (Ok (Outside raw)) = omega arith
word_short (Err e) = omega arith

module _ (identifier number : ℕ) (h : number < 2 ^ 64) where
  pub reading_short : (figures : Figures) (class : Result Class NoClass) → SFits w64 (carried_by class) → length (reading_line figures identifier number class) ≤ listed_line_room
  reading_short figures class f =
      omega (
        arith,
        more_long (identifier_text identifier) (natural_text number) (class_word class ∷ figure_of figures class ∷ []),
        more_long (natural_text number) (class_word class) (figure_of figures class ∷ []),
        more_long (class_word class) (figure_of figures class) [],
        last_long (figure_of figures class),
        identifier_long identifier,
        natural_few number h,
        word_short class,
        figure_few figures class f,
      )

  pub refused_short : length (refused_frame_line identifier number) ≤ listed_line_room
  refused_short =
      omega (
        arith,
        more_long (identifier_text identifier) no_word (natural_text number ∷ []),
        more_long no_word (natural_text number) [],
        last_long (natural_text number),
        identifier_long identifier,
        natural_few number h,
      )
