-- How a book stands in its words: counts, then columns, each filled up with 0; and which words are those of a taken book.
-- Assumes nothing: these are definitions.
use Rattle.std.specs.Prelude.{◌≡◌, ℕ, ◌+◌, ◌-◌, Bool, true, false, ◌&&◌, List, [], ◌∷◌, ◌++◌, map, eqb, length, take, drop, replicate}
use Rattle.record.specs.Columns.{message_count_of, signal_count_of, route_count_of, ids_of, ends_of, numbers_of, starts_of, froms_of, tos_of, message_columns_of, route_columns_of}
use Rattle.books.specs.Book.{Placement, Message, Route, Book, identifiers, numbers, all_placements, placement, route_between}
use Rattle.books.specs.Lines.{message_limit, signal_limit, route_limit}
use Rattle.books.specs.Good.{good}
use Rattle.books.specs.Built.{Built}

-- a column of n entries: those that are there, and 0 past them
unfoldable pub column : ℕ → List ℕ → List ℕ
column n l = l ++ replicate (n - length l) 0

abbrev pub placement_starts : List Placement → List ℕ
placement_starts ps = map (λ (p : Placement). p.start) ps

-- for each message, how many signals there are up to its last one, n before them
unfoldable pub ends_after : ℕ → List Message → List ℕ
ends_after n [] = []
ends_after n (m ∷ ms) = (n + length m.placements) ∷ ends_after (n + length m.placements) ms

-- the columns of the messages
abbrev pub id_column : List Message → List ℕ
id_column ms = column message_limit (identifiers ms)

abbrev pub end_column : List Message → List ℕ
end_column ms = column message_limit (ends_after 0 ms)

abbrev pub number_column : List Message → List ℕ
number_column ms = column signal_limit (numbers (all_placements ms))

abbrev pub start_column : List Message → List ℕ
start_column ms = column signal_limit (placement_starts (all_placements ms))

unfoldable pub message_columns : List Message → List ℕ
message_columns ms = id_column ms ++ (end_column ms ++ (number_column ms ++ start_column ms))

-- the places that routes lead from, and those they lead to, and their columns
abbrev pub froms : List Route → List ℕ
froms rs = map (λ (r : Route). r.from) rs

abbrev pub tos : List Route → List ℕ
tos rs = map (λ (r : Route). r.to) rs

abbrev pub from_column : List Route → List ℕ
from_column rs = column route_limit (froms rs)

abbrev pub to_column : List Route → List ℕ
to_column rs = column route_limit (tos rs)

unfoldable pub route_columns : List Route → List ℕ
route_columns rs = from_column rs ++ to_column rs

unfoldable pub words_of : Book → List ℕ
words_of b =
    length b.messages ∷ length (all_placements b.messages) ∷ length b.routes ∷
    (message_columns b.messages ++ route_columns b.routes)

-- the placements whose numbers and starts stand side by side
unfoldable pub side_by_side : List ℕ → List ℕ → List Placement
side_by_side [] ss = []
side_by_side (n ∷ ns) [] = []
side_by_side (n ∷ ns) (s ∷ ss) = placement n s ∷ side_by_side ns ss

-- the messages with these identifiers and ends, whose signals are the placements in turn: each message has those from the end
-- of the message before it to its own end. The first of them begins at n, and the placements are those from n on.
unfoldable pub shown : ℕ → List ℕ → List ℕ → List Placement → List Message
shown n [] es ps = []
shown n (i ∷ is) [] ps = []
shown n (i ∷ is) (e ∷ es) ps = record { identifier = i; placements = take (e - n) ps } ∷ shown e is es (drop (e - n) ps)

-- the messages that words show: as many as are counted, by the columns
unfoldable pub messages_of : List ℕ → List Message
messages_of w =
    shown 0 (take (message_count_of w) (ids_of w)) (take (message_count_of w) (ends_of w))
    (side_by_side (take (signal_count_of w) (numbers_of w)) (take (signal_count_of w) (starts_of w)))

-- the test whether two lists have the same numbers in the same order
unfoldable pub same : List ℕ → List ℕ → Bool
same [] [] = true
same [] (y ∷ ys) = false
same (x ∷ xs) [] = false
same (x ∷ xs) (y ∷ ys) = eqb x y && same xs ys

-- the message and signal tables are those of a taken book: the words stand as the messages that they show would, and these are good
unfoldable pub messages_taken_spec : List ℕ → Bool
messages_taken_spec w =
    (eqb (message_count_of w) (length (messages_of w)) && (eqb (signal_count_of w) (length (all_placements (messages_of w))) &&
    same (message_columns_of w) (message_columns (messages_of w)))) &&
    good (messages_of w)

-- the messages stand in the words: their counts and their columns. The routes are not asked.
pub record Stands (w : List ℕ) (ms : List Message) : Type 0 where
  pub messages : message_count_of w ≡ length ms
  pub signals : signal_count_of w ≡ length (all_placements ms)
  pub columns : message_columns_of w ≡ message_columns ms

-- the routes stand in the words: their count and their columns. The messages are not asked.
pub record RoutesStand (w : List ℕ) (rs : List Route) : Type 0 where
  pub count : route_count_of w ≡ length rs
  pub columns : route_columns_of w ≡ route_columns rs

-- the routes whose places stand side by side
unfoldable pub routes_side_by_side : List ℕ → List ℕ → List Route
routes_side_by_side [] ts = []
routes_side_by_side (f ∷ fs) [] = []
routes_side_by_side (f ∷ fs) (t ∷ ts) = route_between f t ∷ routes_side_by_side fs ts

-- the routes that words show: as many as are counted, by the columns
unfoldable pub routes_of : List ℕ → List Route
routes_of w = routes_side_by_side (take (route_count_of w) (froms_of w)) (take (route_count_of w) (tos_of w))

-- the book that words show
abbrev pub book_of : List ℕ → Book
book_of w = record { messages = messages_of w; routes = routes_of w }

-- refusal 12 for the message and signal tables, exactly: they are those of messages that lines build
pub record OfBuilt (w : List ℕ) : Type 0 where
  pub shown_messages : List Message
  pub built : Built shown_messages
  pub stand : Stands w shown_messages
