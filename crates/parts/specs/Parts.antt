-- "Lines end with a newline ..; fields are parted by one tab." A text in lines, and a line in fields. Assumes nothing.
use Rattle.std.specs.Prelude.{ℕ, suc, cond, List, [], ◌∷◌, eqb}

abbrev pub tab : ℕ
tab = 9

abbrev pub newline : ℕ
newline = 10

-- a byte before the first of the parts
unfoldable pub on_first : ℕ → List (List ℕ) → List (List ℕ)
on_first b [] = (b ∷ []) ∷ []
on_first b (p ∷ ps) = (b ∷ p) ∷ ps

-- the parts of a list between the bytes that equal s: one more than there are such bytes
unfoldable pub split : ℕ → List ℕ → List (List ℕ)
split s [] = [] ∷ []
split s (b ∷ t) = cond (eqb b s) ([] ∷ split s t) (on_first b (split s t))

-- the fields of a line: parted by one tab
abbrev pub fields : List ℕ → List (List ℕ)
fields l = split tab l

-- a line of a text: its bytes without the newline, or a last part that no newline ends
pub data TextLine : Type 0 where
  ended : List ℕ → TextLine
  unended : List ℕ → TextLine

-- each part but the last is ended by a newline; the last is a line only where it is not empty
unfoldable pub lines_of : List (List ℕ) → List TextLine
lines_of [] = []
lines_of ([] ∷ []) = []
lines_of ((b ∷ l) ∷ []) = unended (b ∷ l) ∷ []
lines_of (l ∷ p ∷ ps) = ended l ∷ lines_of (p ∷ ps)

unfoldable pub lines : List ℕ → List TextLine
lines text = lines_of (split newline text)

-- where s first stands, or the length
unfoldable pub index_of : ℕ → List ℕ → ℕ
index_of s [] = 0
index_of s (b ∷ t) = cond (eqb b s) 0 (suc (index_of s t))
