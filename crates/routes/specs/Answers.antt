-- Refusals 12, 61 and 62, and what a call for a spread leaves behind. An answer is its refusal's number, 0 where there is none, and how
-- many places it counts. Assumes nothing: these are definitions.
use Rattle.std.specs.Prelude.{ℕ, ◌<◌, ◌≤◌, List, ◌++◌, length, drop, Result, Ok, Err}
use Rattle.record.specs.Limits.{bus_limit, identifier_limit}
use Rattle.record.specs.Place.{place_key}
use Rattle.chains.specs.Spread.{spread_of}
use Rattle.books.specs.Book.{Route}
use Rattle.books.specs.Words.{froms, tos, routes_of}
use Rattle.route_tables.specs.Tables.{RoutesTaken}
use Rattle.routes.specs.declared.SpreadRefusal.{SpreadRefusal}
use Rattle.routes.specs.declared.SpreadRefusal.TheVariants.{NotABook, NoSuchPlace, NoRoom}

-- document 01's number of each refusal
abbrev pub spread_refusal_number : SpreadRefusal → ℕ
spread_refusal_number NotABook = 12
spread_refusal_number NoSuchPlace = 61
spread_refusal_number NoRoom = 62

-- of each answer; 0 is no refusal
abbrev pub sent_number : Result ℕ SpreadRefusal → ℕ
sent_number (Ok n) = 0
sent_number (Err refusal) = spread_refusal_number refusal

-- and how many places it counts
abbrev pub place_count : Result ℕ SpreadRefusal → ℕ
place_count (Ok n) = n
place_count (Err refusal) = 0

-- a bus and an identifier within their limits make a place
pub record IsPlace (bus identifier : ℕ) : Type 0 where
  pub on_bus : bus < bus_limit
  pub identified : identifier < identifier_limit

-- the spread of a place along routes
abbrev pub spread_along : List Route → ℕ → ℕ → List ℕ
spread_along rs bus identifier = spread_of (froms rs) (tos rs) (place_key bus identifier)

-- by a table of routes, with the room after the call: as lent where it refuses; else the spread at the front, and the rest as lent
pub data SpreadBy (rs : List Route) (bus identifier : ℕ) (room : List ℕ) : ℕ → ℕ → List ℕ → Type 0 where
  -- 61: bus or identifier over limit
  no_place : (IsPlace bus identifier → ⊥) → SpreadBy rs bus identifier room 61 0 room
  -- 62: room for fewer entries than the spread has
  no_room : IsPlace bus identifier → length room < length (spread_along rs bus identifier) → SpreadBy rs bus identifier room 62 0 room
  -- otherwise the spread
  spreads : IsPlace bus identifier → length (spread_along rs bus identifier) ≤ length room
      → SpreadBy rs bus identifier room 0 (length (spread_along rs bus identifier)) (spread_along rs bus identifier ++ drop (length (spread_along rs bus identifier)) room)

-- by the words of a lent book
pub data SpreadAnswer (w : List ℕ) (bus identifier : ℕ) (room : List ℕ) : ℕ → ℕ → List ℕ → Type 0 where
  -- 12: the route tables are those of no taken book
  not_a_book : (RoutesTaken w → ⊥) → SpreadAnswer w bus identifier room 12 0 room
  -- otherwise by the routes that the words show
  by_routes : {why n : ℕ} {after : List ℕ} → RoutesTaken w → SpreadBy (routes_of w) bus identifier room why n after → SpreadAnswer w bus identifier room why n after
