-- What the two functions of the spread ask and do. Assumes nothing: these are definitions.
use Rattle.std.specs.Prelude.{◌≡◌, ℕ, ◌+◌, ◌<◌, ◌≤◌, List, ◌∷◌, length, get_or, take}
use Rattle.std.proofs.lemmas.List.Edits.{sets}
use Rattle.record.specs.Limits.{route_limit}
use Rattle.record.specs.Columns.{route_count_of, froms_of, tos_of}
use Rattle.chains.specs.Chain.{LoopFree}
use Rattle.chains.specs.Spread.{spread_of}

-- the places that the routes of a book's words lead from, as many as are counted, and those they lead to
abbrev pub live_froms : List ℕ → List ℕ
live_froms w = take (route_count_of w) (froms_of w)

abbrev pub live_tos : List ℕ → List ℕ
live_tos w = take (route_count_of w) (tos_of w)

-- the spread of a place along them
abbrev pub spread_in : List ℕ → ℕ → List ℕ
spread_in w place = spread_of (live_froms w) (live_tos w) place

-- what a route hands on: the place it leads to, then that place's spread
abbrev pub handed_along : List ℕ → List ℕ → ℕ → List ℕ
handed_along froms tos i = get_or tos i 0 ∷ spread_of froms tos (get_or tos i 0)

abbrev pub handed_on : List ℕ → ℕ → List ℕ
handed_on w i = handed_along (live_froms w) (live_tos w) i

-- a route of these words, which count no more than a book may have
pub record RouteOf (w : List ℕ) (i : ℕ) : Type 0 where
  pub counted : i < route_count_of w
  pub few : route_count_of w ≤ route_limit

-- the words count no more routes than a book may have, all of which they have, these have no closed chain, and a room for as many
-- places as there may be routes has entries for s from `at` on
pub record Ready (w s : List ℕ) (at : ℕ) : Type 0 where
  pub few : route_count_of w ≤ route_limit
  pub whole : length (live_froms w) ≡ route_count_of w
  pub free : LoopFree (live_froms w) (live_tos w)
  pub space : at + length s ≤ route_limit

-- s is written into the room from `at` on, and next is the entry after it
pub record Written (s room : List ℕ) (at : ℕ) (after : List ℕ) (next : ℕ) : Type 0 where
  pub ends : next ≡ at + length s
  pub is : after ≡ sets room at s
