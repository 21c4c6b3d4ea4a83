-- Working definitions: what the functions for each kind of line answer. Assumes nothing.
use Rattle.std.specs.Prelude.{◌≡◌, List, ℕ, Option, Some, None}
use Rattle.line.specs.declared.Line.TheVariants.{IllFormed}
use Rattle.line.specs.declared.ReadLine.{ReadLine}
use Rattle.line.specs.LineAt.{read_line, first_line}

-- a text whose first line is ill formed
abbrev pub ill_formed_spec : List ℕ → ReadLine
ill_formed_spec text = read_line IllFormed (first_line text).next

-- a text's first line; none only where it is ill formed
abbrev pub FirstOrIll : List ℕ → Option ReadLine → Type 0
FirstOrIll text (Some read) = read ≡ first_line text
FirstOrIll text None = ill_formed_spec text ≡ first_line text
