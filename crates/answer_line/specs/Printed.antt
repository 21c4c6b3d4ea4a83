-- "The book checker .. prints `ok`, M count, S count, R count, or `no`, refusal, line, tab-parted." Every printed line ends with a
-- newline. Assumes nothing: these are definitions.
use Rattle.std.specs.Prelude.{ℕ, suc, cond, List, [], ◌∷◌, ltb, length}
use Rattle.std.proofs.lemmas.List.Edits.{sets}
use Rattle.parts.specs.Parts.{tab}
use Rattle.parts.specs.Joined.{join, text_of_lines}
use Rattle.printing.specs.Decimal.{natural_text, natural_room}
use Rattle.answers.specs.Numbers.{Said, taken, refused}

-- the words, in bytes
abbrev pub ok : List ℕ
ok = 111 ∷ 107 ∷ []

abbrev pub no : List ℕ
no = 110 ∷ 111 ∷ []

unfoldable pub taken_line : ℕ → ℕ → ℕ → List ℕ
taken_line m s r = text_of_lines (join tab (ok ∷ natural_text m ∷ natural_text s ∷ natural_text r ∷ []) ∷ [])

unfoldable pub refused_line : ℕ → ℕ → List ℕ
refused_line n line = text_of_lines (join tab (no ∷ natural_text n ∷ natural_text line ∷ []) ∷ [])

abbrev pub answer_line_spec : Said → List ℕ
answer_line_spec (taken m s r) = taken_line m s r
answer_line_spec (refused n line) = refused_line n line

-- no tab with a number is longer
abbrev pub field_room : ℕ
field_room = suc natural_room

-- no line of an answer is longer
abbrev pub line_room : ℕ
line_room = 80

-- how many bytes are written, and the lent bytes then: a text at their front, or nothing where they are too few
unfoldable pub printed : List ℕ → List ℕ → ℕ × List ℕ
printed out text = cond (ltb (length out) line_room) (0, out) (length text, sets out 0 text)
