-- The table of refusals for one line: which of 3 to 9 it deserves after what the book holds already, in no order. Assumes nothing: these are definitions.
use Rattle.std.specs.Prelude.{◌≡◌, ◌⊎◌, ℕ, ◌≤◌, ◌<◌, true, List, length}
use Rattle.catalogue.specs.Find.{HasRow}
use Rattle.books.specs.Book.{Placement, Message, Route, identifiers, numbers, all_placements, last_placements}
use Rattle.books.specs.Lines.{is_in, misplaced, message_limit, signal_limit, route_limit, bus_limit, identifier_limit, start_limit}
use Rattle.books.specs.Belonging.{SharesEarlier}

-- an `M` line
pub data MessageDue (ms : List Message) (i n : ℕ) : Type 0 where
  over : n ≡ 3 → identifier_limit ≤ i → MessageDue ms i n
  again : n ≡ 5 → is_in i (identifiers ms) ≡ true → MessageDue ms i n
  full : n ≡ 9 → message_limit ≤ length ms → MessageDue ms i n

-- an `S` line
pub data SignalDue (ms : List Message) (p : Placement) (n : ℕ) : Type 0 where
  -- no row of the catalogue has the number, or the start is over its limit
  over : n ≡ 3 → (HasRow p.number → ⊥) ⊎ (start_limit ≤ p.start) → SignalDue ms p n
  early : n ≡ 4 → length ms ≡ 0 → SignalDue ms p n
  again : n ≡ 6 → is_in p.number (numbers (last_placements ms)) ≡ true → SignalDue ms p n
  astray : n ≡ 7 → misplaced p ≡ true → SignalDue ms p n
  -- some frame bit belongs to it and to an earlier signal of its message
  meeting : n ≡ 8 → SharesEarlier (last_placements ms) p → SignalDue ms p n
  full : n ≡ 9 → signal_limit ≤ length (all_placements ms) → SignalDue ms p n

-- an `R` line
pub data RouteDue (rs : List Route) (a i b j n : ℕ) : Type 0 where
  over : n ≡ 3 → ((bus_limit ≤ a) ⊎ (identifier_limit ≤ i)) ⊎ ((bus_limit ≤ b) ⊎ (identifier_limit ≤ j)) → RouteDue rs a i b j n
  full : n ≡ 9 → route_limit ≤ length rs → RouteDue rs a i b j n

-- "the lowest": a number above 0 is one that is due, and none that is due is lower
pub record LowestDue (Due : ℕ → Type 0) (r : ℕ) : Type 0 where
  pub due : 0 < r → Due r
  pub lowest : (n : ℕ) → Due n → (0 < r) × (r ≤ n)
