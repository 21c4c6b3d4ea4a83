-- What the signals of a message fill: frame bits, and marks by which their numbers are told apart quickly: a number's mark is one of 64. Assumes nothing: these are definitions.
use Rattle.std.specs.Prelude.{◌≡◌, Bool, false, ◌||◌, List, [], ◌∷◌, ℕ, ◌%◌, eqb}
use Rattle.books.specs.Book.{Placement, numbers}
use Rattle.masks.specs.Bit.{width, bit}
use Rattle.books.specs.Belonging.{in_run, covers, HaveBits}
use Rattle.placing.specs.declared.Filled.{Filled}

-- mark j is that of one of the numbers
unfoldable pub marked : List ℕ → ℕ → Bool
marked [] j = false
marked (n ∷ ns) j = eqb j (n % width) || marked ns j

-- the mask has the marks of the numbers
abbrev pub Marks : List ℕ → ℕ → Type 0
Marks ns m = (j : ℕ) → bit m j ≡ marked ns j

-- the signals, each of which has bits, fill this
pub record Fills (ps : List Placement) (f : Filled) : Type 0 where
  pub each_wide : HaveBits ps
  pub bits : (k : ℕ) → bit f.bits k ≡ covers ps k
  pub marks : Marks (numbers ps) f.marks

-- g is f with the bits of a run and the mark of a number more
pub record FilledMore (f : Filled) (number start bits : ℕ) (g : Filled) : Type 0 where
  pub bits_more : (k : ℕ) → bit g.bits k ≡ bit f.bits k || in_run start bits k
  pub marks_more : (j : ℕ) → bit g.marks j ≡ bit f.marks j || eqb j (number % width)
