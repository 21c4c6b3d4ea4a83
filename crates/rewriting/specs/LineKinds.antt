-- "The same lines, those of M and S in their order and those of R in theirs", and "a book with its R lines last": the lines of a text as
-- bytes, each of the kind that its first byte tells. Assumes nothing: these are definitions.
use Rattle.std.specs.Prelude.{◌≡◌, ℕ, Bool, true, false, ◌||◌, List, [], ◌∷◌, map, eqb}
use Rattle.lists.specs.Lists.{those}
use Rattle.parts.specs.Parts.{TextLine, ended, unended, lines}
use Rattle.line.specs.Meaning.{letter_m, letter_s, letter_r}

-- the bytes of a line, without its newline
abbrev pub line_bytes : TextLine → List ℕ
line_bytes (ended l) = l
line_bytes (unended l) = l

-- the lines of a text, as they stand
unfoldable pub text_lines : List ℕ → List (List ℕ)
text_lines text = map line_bytes (lines text)

-- M and S lines, and R lines: by the first byte
unfoldable pub is_m_or_s_line : List ℕ → Bool
is_m_or_s_line [] = false
is_m_or_s_line (k ∷ l) = eqb k letter_m || eqb k letter_s

unfoldable pub is_r_line : List ℕ → Bool
is_r_line [] = false
is_r_line (k ∷ l) = eqb k letter_r

-- the M and S lines of a text, and its R lines: as they stand, each in their order
unfoldable pub message_lines_of : List ℕ → List (List ℕ)
message_lines_of text = those is_m_or_s_line (text_lines text)

unfoldable pub route_lines_of : List ℕ → List (List ℕ)
route_lines_of text = those is_r_line (text_lines text)

-- lines that are each ended by a newline, and each an M or S line or an R line
pub data MSAndRLines : List TextLine → Type 0 where
  no_line : MSAndRLines []
  m_or_s_line : {l : List ℕ} {ls : List TextLine} → is_m_or_s_line l ≡ true → MSAndRLines ls → MSAndRLines (ended l ∷ ls)
  r_line : {l : List ℕ} {ls : List TextLine} → is_r_line l ≡ true → MSAndRLines ls → MSAndRLines (ended l ∷ ls)

-- R lines alone
pub data AllRLines : List (List ℕ) → Type 0 where
  no_more : AllRLines []
  r_next : {l : List ℕ} {ls : List (List ℕ)} → is_r_line l ≡ true → AllRLines ls → AllRLines (l ∷ ls)

-- lines with the R lines last: some that are no R lines, then R lines alone
pub data RoutesLast : List (List ℕ) → Type 0 where
  r_lines : {ls : List (List ℕ)} → AllRLines ls → RoutesLast ls
  no_r_line : {l : List ℕ} {ls : List (List ℕ)} → is_r_line l ≡ false → RoutesLast ls → RoutesLast (l ∷ ls)
