-- The lines that the lister prints: fields parted by tabs, ended by a newline. Assumes nothing.
use Rattle.std.specs.Prelude.{List, [], ◌∷◌, ◌++◌, ℕ, Result}
use Rattle.catalogue.specs.declared.Class.{Class}
use Rattle.catalogue.specs.declared.NoClass.{NoClass}
use Rattle.frame_lines.specs.declared.FrameLine.TheVariants.{IllFormed}
use Rattle.frame_lines.specs.Meaning.{frame_line_number}
use Rattle.numerals.specs.Written.{identifier_text}
use Rattle.parts.specs.Parts.{tab, newline}
use Rattle.parts.specs.Joined.{join}
use Rattle.printing.specs.Decimal.{natural_text}
use Rattle.signal_lines.specs.declared.figures.Figures.{Figures}
use Rattle.signal_lines.specs.Words.{no_word, class_word, figure_of}

unfoldable pub printed_line : List (List ℕ) → List ℕ
printed_line fields = join tab fields ++ (newline ∷ [])

-- "Each signal gives identifier, number, class word, and the thousandths of a value or the raw count of any other class."
-- The dash's lister has the bits of the double "in place of the thousandths".
abbrev pub reading_line : Figures → ℕ → ℕ → Result Class NoClass → List ℕ
reading_line figures identifier number class =
    printed_line (identifier_text identifier ∷ natural_text number ∷ class_word class ∷ figure_of figures class ∷ [])

-- the end of that line: the class word and its number
abbrev pub class_end : Figures → Result Class NoClass → List ℕ
class_end figures class = printed_line (class_word class ∷ figure_of figures class ∷ [])

-- "A refused frame gives identifier, `no`, number"
abbrev pub refused_frame_line : ℕ → ℕ → List ℕ
refused_frame_line identifier number = printed_line (identifier_text identifier ∷ no_word ∷ natural_text number ∷ [])

-- "an ill-formed line gives" `no`, 20
abbrev pub ill_formed_line : List ℕ
ill_formed_line = printed_line (no_word ∷ natural_text (frame_line_number IllFormed) ∷ [])

-- ---- room: no line is longer than listed_line_room, no end of one (a word with its number) than end_room, no word than word_room
abbrev pub listed_line_room : ℕ
listed_line_room = 64

abbrev pub end_room : ℕ
end_room = 34

abbrev pub word_room : ℕ
word_room = 12
