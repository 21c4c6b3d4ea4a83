-- What the searches over the masks of `reach` look for: the working side, which no entry point's contract names. `gateway_checker: Masks
-- back_same, none_begins, begins_same` tie it to chains, and `gateway_checker: Judging loop_by, sound_by, doubling_by` make the verdict of it.
-- Assumes nothing: these are definitions.
use Rattle.std.specs.Prelude.{◌≡◌, Bool, true, ◌||◌, ℕ, ◌<◌, List, length, get_or, Option, Some, None}
use Rattle.masks.specs.Bit.{width, bit, meeting}
use Rattle.chains.specs.Tests.{FirstPassing}
use Rattle.reach.specs.Led.{turn}

-- the first of n routes that passes, and `None` where none does
abbrev pub FirstOf : (ℕ → Bool) → ℕ → Option ℕ → Type 0
FirstOf P n None = FirstPassing P n n
FirstOf P n (Some i) = (i < n) × FirstPassing P n i

-- route i leads on to where it starts
abbrev pub leads_back : List ℕ → List ℕ → ℕ → Bool
leads_back starts onward i = bit (get_or onward i 0) (get_or starts i 0)

-- route a had its turn among the first m, and before it one that starts where a does and leads on to a place that a leads on to
abbrev pub ForksEarlier : List ℕ → List ℕ → Bool → ℕ → ℕ → Type 0
ForksEarlier starts onward down m a =
    (t u : ℕ) × (t < m) × (u < t) × (a ≡ turn (length starts) down t)
    × (get_or starts (turn (length starts) down u) 0 ≡ get_or starts a 0)
    × (meeting (get_or onward (turn (length starts) down u) 0) (get_or onward a 0) ≡ true)

-- one of the first m routes is in the mask and starts at the number x, which a mask can have
abbrev pub StartsAt : List ℕ → ℕ → ℕ → ℕ → Type 0
StartsAt starts routes m x = (a : ℕ) × (a < m) × (bit routes a ≡ true) × (get_or starts a 0 ≡ x) × (x < width)

-- route i forks, or leads on to where a route starts that does
abbrev pub begins_by : List ℕ → ℕ → ℕ → ℕ → Bool
begins_by onward forks places i = bit forks i || meeting (get_or onward i 0) places
