-- What writing lines asks for, and how long M lines are. The working side: these say what the inner functions ask and keep. Assumes
-- nothing: these are definitions.
use Rattle.std.specs.Prelude.{ℕ, ◌+◌, ◌≤◌, ◌<◌, ◌≡◌, List, [], ◌∷◌, length}
use Rattle.numerals.specs.Written.{decimal_limit}
use Rattle.line.specs.declared.Line.{Line}
use Rattle.line.specs.declared.Line.TheVariants.{Message, Signal, Route, IllFormed}
use Rattle.reading.specs.Written.{lines_text}

-- the numbers of an S line have at most five digits; those of the other lines can be written whatever they are, as words of 32 bits
abbrev pub FewDigits : Line → Type 0
FewDigits (Message i) = Unit {0}
FewDigits (Signal n s) = (n < decimal_limit) × (s < decimal_limit)
FewDigits (Route a i b j) = Unit {0}
FewDigits IllFormed = Unit {0}

pub data AllFewDigits : List Line → Type 0 where
  nothing : AllFewDigits []
  also : {l : Line} {ls : List Line} → FewDigits l → AllFewDigits ls → AllFewDigits (l ∷ ls)

-- lines that can be written so, and room for them at a place of a list
pub record LinesFit (out : List ℕ) (at : ℕ) (ls : List Line) : Type 0 where
  pub digits : AllFewDigits ls
  pub room : at + length (lines_text ls) ≤ length out

-- every M line has so many bytes, whatever its identifier
abbrev pub EveryMessageHas : ℕ → Type 0
EveryMessageHas n = (i : ℕ) → n ≡ length (lines_text (Message i ∷ []))

-- room for the two values of a place: a bus has one digit
abbrev pub place_room : ℕ
place_room = 10
