-- What a route book holds: its messages with their signals, and its routes, each in book order. Assumes nothing: these are definitions.
use Rattle.std.specs.Prelude.{ℕ, List, [], ◌∷◌, ◌++◌, map}
use Rattle.record.specs.Place.{place_key}

-- an `S` line: a signal of the catalogue, and the frame bit where it starts
pub record Placement : Type 0 where
  pub number : ℕ
  pub start : ℕ

-- an `M` line with its `S` lines, in their order
pub record Message : Type 0 where
  pub identifier : ℕ
  pub placements : List Placement

-- an `R` line: from place, to place
pub record Route : Type 0 where
  pub from : ℕ
  pub to : ℕ

-- a route, by the places that it leads from and to: the one way in which a route is made
abbrev pub route_between : ℕ → ℕ → Route
route_between p q = record { from = p; to = q }

pub record Book : Type 0 where
  pub messages : List Message
  pub routes : List Route

-- the empty book
abbrev pub no_book : Book
no_book = record { messages = []; routes = [] }

abbrev pub identifiers : List Message → List ℕ
identifiers ms = map (λ (m : Message). m.identifier) ms

abbrev pub numbers : List Placement → List ℕ
numbers ps = map (λ (p : Placement). p.number) ps

-- all placements of the book, message after message
unfoldable pub all_placements : List Message → List Placement
all_placements [] = []
all_placements (m ∷ ms) = m.placements ++ all_placements ms

-- a message that has no signals yet
abbrev pub fresh : ℕ → Message
fresh i = record { identifier = i; placements = [] }

abbrev pub with_placement : Message → Placement → Message
with_placement m p = record { identifier = m.identifier; placements = m.placements ++ (p ∷ []) }

-- an `S` line belongs to the nearest `M` above: the last message so far
unfoldable pub in_last : List Message → Placement → List Message
in_last [] p = []
in_last (m ∷ []) p = with_placement m p ∷ []
in_last (m ∷ n ∷ ms) p = m ∷ in_last (n ∷ ms) p

-- the placements of the last message so far
unfoldable pub last_placements : List Message → List Placement
last_placements [] = []
last_placements (m ∷ []) = m.placements
last_placements (m ∷ n ∷ ms) = last_placements (n ∷ ms)

-- what the numbers of an `S` line and of an `R` line make
abbrev pub placement : ℕ → ℕ → Placement
placement n s = record { number = n; start = s }

abbrev pub route : ℕ → ℕ → ℕ → ℕ → Route
route a i b j = route_between (place_key a i) (place_key b j)

-- the book with an `M`, an `S`, an `R` line more
abbrev pub with_message : Book → ℕ → Book
with_message b i = record { messages = b.messages ++ (fresh i ∷ []); routes = b.routes }

abbrev pub with_signal : Book → Placement → Book
with_signal b p = record { messages = in_last b.messages p; routes = b.routes }

abbrev pub with_route : Book → Route → Book
with_route b r = record { messages = b.messages; routes = b.routes ++ (r ∷ []) }
