-- The text of a book: each M line with its S lines, in book order, then the R lines in book order. Assumes nothing: these are definitions.
use Rattle.std.specs.Prelude.{ℕ, zero, suc, ◌+◌, ◌*◌, ◌<◌, ◌/◌, ◌%◌, ◌≤◌, List, [], ◌∷◌, ◌++◌, map, length}
use Rattle.record.specs.Limits.{identifier_limit}
use Rattle.record.specs.Place.{place_limit}
use Rattle.numerals.specs.Written.{identifier_text, decimal_text}
use Rattle.parts.specs.Parts.{tab}
use Rattle.parts.specs.Joined.{text_of_lines}
use Rattle.line.specs.Written.{line_text}
use Rattle.line.specs.declared.Line.{Line}
use Rattle.line.specs.declared.Line.TheVariants as line
use Rattle.books.specs.Book.{Book, Message, Placement, Route}
use Rattle.books.specs.Lines.{message_limit, signal_limit, route_limit}

abbrev pub signal_line : Placement → Line
signal_line p = line.Signal p.number p.start

-- the line of a route, by the bus and the identifier of each of its places
abbrev pub route_line : Route → Line
route_line r =
    line.Route (r.from / identifier_limit) (r.from % identifier_limit) (r.to / identifier_limit) (r.to % identifier_limit)

-- the two values of a place in an R line, bus and identifier
abbrev pub place_text : ℕ → List ℕ
place_text place = decimal_text (place / identifier_limit) ++ tab ∷ identifier_text (place % identifier_limit)

unfoldable pub message_lines : List Message → List Line
message_lines [] = []
message_lines (m ∷ ms) = line.Message m.identifier ∷ (map signal_line m.placements ++ message_lines ms)

unfoldable pub book_lines : Book → List Line
book_lines b = message_lines b.messages ++ map route_line b.routes

-- the text of lines: each ended by a newline
abbrev pub lines_text : List Line → List ℕ
lines_text ls = text_of_lines (map line_text ls)

unfoldable pub book_text : Book → List ℕ
book_text b = lines_text (book_lines b)

-- no text of a book has more bytes: 64 M lines of 11, 256 S lines of 10 and 64 R lines of 24
abbrev pub most_written : ℕ
most_written = message_limit * 11 + signal_limit * 10 + route_limit * 24

-- the places of routes are places: each has a bus and an identifier within their limits
pub data BetweenPlaces : List Route → Type 0 where
  no_route : BetweenPlaces []
  route : {r : Route} {rs : List Route} → r.from < place_limit → r.to < place_limit → BetweenPlaces rs → BetweenPlaces (r ∷ rs)

-- the line numbers of k lines from n on
unfoldable pub count_up : ℕ → ℕ → List ℕ
count_up n zero = []
count_up n (suc k) = n ∷ count_up (suc n) k

-- the routes of lines that pass: few enough, and their places are places
pub record Routed (rs : List Route) : Type 0 where
  pub few : length rs ≤ route_limit
  pub places : BetweenPlaces rs
