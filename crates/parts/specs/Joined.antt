-- Fields put together to a line, and lines to a text. Assumes nothing.
use Rattle.std.specs.Prelude.{ℕ, ◌≡◌, List, [], ◌∷◌, ◌++◌}
use Rattle.parts.specs.Parts.{newline}

-- parts with the byte s between them
unfoldable pub join : ℕ → List (List ℕ) → List ℕ
join s [] = []
join s (p ∷ []) = p
join s (p ∷ q ∷ ps) = p ++ s ∷ join s (q ∷ ps)

-- lines, each ended by a newline
unfoldable pub text_of_lines : List (List ℕ) → List ℕ
text_of_lines [] = []
text_of_lines (l ∷ ls) = l ++ newline ∷ text_of_lines ls

-- no byte of the list is s
pub data Lacks (s : ℕ) : List ℕ → Type 0 where
  none : Lacks s []
  more : {b : ℕ} {t : List ℕ} → (b ≡ s → ⊥) → Lacks s t → Lacks s (b ∷ t)

-- no byte of any of the parts is s
pub data AllLack (s : ℕ) : List (List ℕ) → Type 0 where
  no_part : AllLack s []
  part : {p : List ℕ} {ps : List (List ℕ)} → Lacks s p → AllLack s ps → AllLack s (p ∷ ps)
