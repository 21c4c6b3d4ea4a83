-- Demand 3, its last sentence: "From any valid place, given room enough, the spread then lists every place that a chain reaches, each
-- once, nothing else, and no more entries than the book has routes." Assumes nothing: these are definitions.
use Rattle.std.specs.Prelude.{◌≡◌, ℕ, ◌≤◌, ◌<◌, List, length, take, drop}
use Rattle.demands.specs.RLines.{RLine, ListsPlaces}

module _ (ls : List RLine) (bus identifier : ℕ) (room : List ℕ) where
  -- room enough: as many entries as there are places to list
  pub record RoomEnough : Type 0 where
    pub places : List ℕ
    pub lists : ListsPlaces ls bus identifier places
    pub fits : length places ≤ length room

  -- room for fewer
  pub record RoomForFewer : Type 0 where
    pub places : List ℕ
    pub lists : ListsPlaces ls bus identifier places
    pub short : length room < length places

  -- the call refuses nothing and counts n entries, which stand at the front of the room and list the places; the rest is as lent
  pub record Spreads (why n : ℕ) (after : List ℕ) : Type 0 where
    pub not_refused : why ≡ 0
    pub lists : ListsPlaces ls bus identifier (take n after)
    pub rest : drop n after ≡ drop n room
