-- How the masks of numbers grow: routes hand on what they lead to. This is the working side of `fill`, which no public function's
-- contract names; `reach: Leading tells_one` ties masks that are settled to chains. Assumes nothing: these are definitions.
use Rattle.std.specs.Prelude.{◌≡◌, Bool, true, false, ◌||◌, ℕ, ◌+◌, ◌<◌, List, [], ◌∷◌, length, get_or, eqb}
use Rattle.masks.specs.Bit.{bit}
use Rattle.chains.specs.Chain.{Chain}

-- the masks put together as numbers
unfoldable pub total : List ℕ → ℕ
total [] = 0
total (x ∷ l) = x + total l

module _ (starts ends : List ℕ) where
  -- what the masks have, chains lead to
  unfoldable pub Real : List ℕ → Type 0
  Real masks = (x y : ℕ) → bit (get_or masks x 0) y ≡ true → (c : List ℕ) × Chain starts ends x c y

  -- the number where route j starts has what the route leads to
  abbrev pub HandedOn : List ℕ → ℕ → Type 0
  HandedOn masks j = (k : ℕ) → bit (get_or masks (get_or ends j 0) 0) k || eqb k (get_or ends j 0) ≡ true → bit (get_or masks (get_or starts j 0) 0) k ≡ true

  -- the masks are real, and all routes have handed on
  pub record Settled (masks : List ℕ) : Type 0 where
    pub real : Real masks
    pub handed : (j : ℕ) → j < length starts → HandedOn masks j

  -- some routes handed on: what the masks have got is real; and where nothing was new, these routes had handed on before
  pub record Handing (Some : ℕ → Type 0) (old now : List ℕ) (new : Bool) : Type 0 where
    pub long : length now ≡ length old
    pub real : Real old → Real now
    pub grown : new ≡ true → total old < total now
    pub settled : new ≡ false → (now ≡ old) × ((j : ℕ) → Some j → HandedOn old j)
