-- "Lines end with a newline": the line that begins at a place of a text, and where the next one begins. Assumes nothing: these are
-- definitions.
use Rattle.std.specs.Prelude.{ℕ, ◌+◌, ◌≤◌, ◌<◌, cond, List, ◌∷◌, ltb, length, take, drop, ◌≡◌}
use Rattle.parts.specs.Parts.{newline, index_of, TextLine, lines}
use Rattle.line.specs.declared.Line.{Line}
use Rattle.line.specs.declared.Line.TheVariants.{IllFormed}
use Rattle.line.specs.declared.ReadLine.{ReadLine}
use Rattle.line.specs.Meaning.{line_meaning, meaning_of}

-- a line that says this, and where the next one begins
abbrev pub read_line : Line → ℕ → ReadLine
read_line l n = record { line = l; next = n }

-- the first line of a text is what stands before the first newline, and the next one begins past it; "last newline missing": all
-- that is there, ill formed
unfoldable pub first_line : List ℕ → ReadLine
first_line text =
    cond (ltb (index_of newline text) (length text)) (read_line (line_meaning (take (index_of newline text) text)) (index_of newline text + 1))
    (read_line IllFormed (length text))

-- the line that begins at a place is the first one of what is left from there on; where nothing is left it is ill formed, and the
-- place stays
unfoldable pub line_at : List ℕ → ℕ → ReadLine
line_at text place = read_line (first_line (drop place text)).line (place + (first_line (drop place text)).next)

-- what is left of a text at a place is one line, which says what was read, and what is left at the next place
pub record PassesLine (text : List ℕ) (at : ℕ) (r : ReadLine) : Type 0 where
  pub first : TextLine
  pub parted : lines (drop at text) ≡ first ∷ lines (drop r.next text)
  pub says : r.line ≡ meaning_of first
  pub further : at < r.next
  pub within : r.next ≤ length text
