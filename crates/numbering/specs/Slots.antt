-- The table of slots in which places are looked for. A slot holds one more than an index of the column, and 0 where it is empty.
-- This is the working side of `number_all`, whose contract names the count of slots alone; `numbering: Laying laid_met, laid_new`
-- tie it to the numbers of places, and `verdict: Renaming judged_places` ties those to chains. Assumes nothing: these are definitions.
use Rattle.std.specs.Prelude.{◌≡◌, ℕ, zero, suc, ◌+◌, ◌-◌, ◌*◌, ◌/◌, ◌%◌, ◌<◌, ◌≤◌, Bool, true, ◌||◌, cond, List, [], ◌∷◌, length, get_or, eqb}
use Rattle.numbering.specs.Numbers.{FirstAt}

-- how many slots places are spread over
abbrev pub slot_count : ℕ
slot_count = 256

-- what a place is multiplied by: the usual number of multiplicative hashing, a prime near 2^32 divided by the golden
-- ratio, so that neighbours fall far apart
abbrev pub spreader : ℕ
spreader = 2654435761

-- 2^24: the bits of the product below it are dropped
abbrev pub dropped : ℕ
dropped = 16777216

-- the slot where the search for a place begins: of the product, eight bits from bit 24 on
abbrev pub slot_of : ℕ → ℕ
slot_of place = place * spreader / dropped % slot_count

module _ (places slots : List ℕ) (place : ℕ) where
  -- a search stops at an empty slot, and at one that holds the place
  abbrev pub stops_at : ℕ → Bool
  stops_at at = eqb (get_or slots at 0) 0 || eqb (get_or places (get_or slots at 0 - 1) 0) place

  -- the slot where the search stops, from slot `at` on, in so many tries
  unfoldable pub seek_from : ℕ → ℕ → ℕ
  seek_from zero at = at
  seek_from (suc tries) at = cond (stops_at at) at (seek_from tries ((at + 1) % slot_count))

  unfoldable pub seek_end : ℕ
  seek_end = seek_from slot_count (slot_of place)

  -- the search stops at slot r
  pub record Stops (r : ℕ) : Type 0 where
    pub end : r ≡ seek_end
    pub low : r < slot_count
    pub stops : stops_at r ≡ true

-- how many slots are empty
unfoldable pub empties : List ℕ → ℕ
empties [] = 0
empties (x ∷ l) = cond (eqb x 0) 1 0 + empties l

-- the first i places can be found: the search for each of them stops at the slot of the index where it stands first
pub record Laid (places slots : List ℕ) (i : ℕ) : Type 0 where
  pub long : length slots ≡ slot_count
  pub low : (x : ℕ) → get_or slots x 0 ≤ i
  pub room : slot_count ≤ empties slots + i
  pub found : (k r : ℕ) → k < i → FirstAt places k r → get_or slots (seek_end places slots (get_or places k 0)) 0 ≡ r + 1
