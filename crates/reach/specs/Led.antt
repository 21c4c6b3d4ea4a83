-- What the masks of routes say: the working side of the verdict, which no entry point's contract names. `Led` is said over chains
-- (`chains: Chain LeadsOn`); `gateway_checker: Judging loop_by, sound_by, doubling_by` go from there to the verdict. Assumes nothing: these are
-- definitions.
use Rattle.std.specs.Prelude.{◌≡◌, Bool, cond, ℕ, ◌-◌, ◌*◌, ◌<◌, ◌≤◌, List, length, get_or}
use Rattle.masks.specs.Bit.{width, bit}
use Rattle.chains.specs.Chain.{LeadsOn}
use Rattle.chains.specs.Tells.{Tells}

-- numbers where routes start: of at most 64 routes, and as each route has two places, every number is below twice that
pub record Starts (starts : List ℕ) : Type 0 where
  pub few : length starts ≤ width
  pub low : (j : ℕ) → j < length starts → get_or starts j 0 < 2 * width

-- numbers that routes lead to: a mask can have each
pub record Ends (ends : List ℕ) : Type 0 where
  pub low : (j : ℕ) → j < length ends → get_or ends j 0 < width

-- a table of routes between numbered places
pub record Numbers (starts ends : List ℕ) : Type 0 where
  pub same : length starts ≡ length ends
  pub from : Starts starts
  pub to : Ends ends

-- mask i says of each number whether route i leads on to it
unfoldable pub Led : List ℕ → List ℕ → List ℕ → Type 0
Led starts ends onward = (i x : ℕ) → i < length starts → Tells (LeadsOn starts ends i x) (bit (get_or onward i 0) x)

-- each route has its mask, and the entries past them stay as they were lent
pub record OnwardFilled (starts ends lent onward : List ℕ) : Type 0 where
  pub led : Led starts ends onward
  pub long : length onward ≡ length lent
  pub rest : (i : ℕ) → length starts ≤ i → get_or onward i 0 ≡ get_or lent i 0

-- the route at turn t of n turns
abbrev pub turn : ℕ → Bool → ℕ → ℕ
turn n down t = cond down (n - 1 - t) t
