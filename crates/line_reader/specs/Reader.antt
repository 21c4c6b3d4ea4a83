-- "The line reader carries the text and its own place in it." Assumes nothing: these are definitions.
use Rattle.std.specs.Prelude.{◌≡◌, ℕ, List, ◌∷◌, drop}
use Rattle.std.specs.Borrow.{Bor}
use Rattle.parts.specs.Parts.{TextLine, lines}
use Rattle.line.specs.declared.Line.{Line}
use Rattle.line.specs.Meaning.{meaning_of}
use Rattle.line.specs.LineAt.{line_at}
use Rattle.line_reader.specs.declared.LineReader.{LineReader}

-- a reader of a text, at a place
abbrev pub reader_at_spec : Bor (List ℕ) → ℕ → LineReader
reader_at_spec text place = record { text = text; at = place }

-- it reads the line that begins at its place, and is then where the next one begins, in the same text
abbrev pub next_line_spec : LineReader → Line × LineReader
next_line_spec reader =
    let read = line_at reader.text.now reader.at in
    (read.line, reader_at_spec reader.text read.next)

-- what the reader has before it is one line, and what it has before it once it has read; and it has read what that line says
pub record OneLine (before : LineReader) (line : Line) (after : LineReader) : Type 0 where
  pub first : TextLine
  pub passes : lines (drop before.at before.text.now) ≡ first ∷ lines (drop after.at after.text.now)
  pub says : line ≡ meaning_of first
