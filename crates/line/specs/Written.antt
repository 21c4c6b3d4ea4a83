-- The text of a line, for reading it back. Assumes nothing.
use Rattle.std.specs.Prelude.{ℕ, ◌<◌, List, [], ◌∷◌, ◌≡◌}
use Rattle.numerals.specs.Written.{identifier_text, decimal_text, hexadecimal_limit, decimal_limit}
use Rattle.parts.specs.Parts.{tab}
use Rattle.parts.specs.Joined.{join}
use Rattle.line.specs.declared.Line.{Line}
use Rattle.line.specs.declared.Line.TheVariants.{Message, Signal, Route, IllFormed}
use Rattle.line.specs.Meaning.{letter_m, letter_s, letter_r}

-- the fields of a line: its kind, and its numbers
unfoldable pub fields_of : Line → List (List ℕ)
fields_of (Message i) = (letter_m ∷ []) ∷ identifier_text i ∷ []
fields_of (Signal n s) = (letter_s ∷ []) ∷ decimal_text n ∷ decimal_text s ∷ []
fields_of (Route a i b j) =
    (letter_r ∷ []) ∷ decimal_text a ∷ identifier_text i ∷ decimal_text b ∷ identifier_text j ∷ []
fields_of IllFormed = []

-- the text of a line: its fields, parted by one tab
unfoldable pub line_text : Line → List ℕ
line_text l = join tab (fields_of l)

-- a line that has a text: its identifiers have 8 hexadecimal digits, its other numbers at most 5 decimal ones
abbrev pub Writable : Line → Type 0
Writable (Message i) = i < hexadecimal_limit
Writable (Signal n s) = (n < decimal_limit) × (s < decimal_limit)
Writable (Route a i b j) =
    ((a < decimal_limit) × (i < hexadecimal_limit)) × ((b < decimal_limit) × (j < hexadecimal_limit))
Writable IllFormed = ⊥

-- what a well formed line says can be written, and the line is that text
pub record Canonical (l : List ℕ) (m : Line) : Type 0 where
  pub writable : Writable m
  pub text : l ≡ line_text m
