-- The words of a book: three counts, then six columns, each at its greatest length; and the empty book.
-- Assumes nothing: these are definitions.
use Rattle.std.specs.Prelude.{◌≡◌, ℕ, ◌+◌, ◌<◌, ◌^◌, List, length, get_or, take, drop, replicate}
use Rattle.record.specs.Limits.{message_limit, signal_limit, route_limit}

-- ---- where the counts of M, S and R lines stand, and where each column begins: where the one before it ends

abbrev pub message_count_at : ℕ
message_count_at = 0

abbrev pub signal_count_at : ℕ
signal_count_at = 1

abbrev pub route_count_at : ℕ
route_count_at = 2

abbrev pub ids_at : ℕ
ids_at = 3

abbrev pub ends_at : ℕ
ends_at = ids_at + message_limit

abbrev pub numbers_at : ℕ
numbers_at = ends_at + message_limit

abbrev pub starts_at : ℕ
starts_at = numbers_at + signal_limit

abbrev pub froms_at : ℕ
froms_at = starts_at + signal_limit

abbrev pub tos_at : ℕ
tos_at = froms_at + route_limit

-- how many words a book has, and how many of them are the columns of the messages and signals, and those of the routes
abbrev pub book_words : ℕ
book_words = tos_at + route_limit

abbrev pub message_words : ℕ
message_words = message_limit + (message_limit + (signal_limit + signal_limit))

abbrev pub route_words : ℕ
route_words = route_limit + route_limit

-- ---- what the words say

-- how many M, S and R lines there are
abbrev pub message_count_of : List ℕ → ℕ
message_count_of w = get_or w message_count_at 0

abbrev pub signal_count_of : List ℕ → ℕ
signal_count_of w = get_or w signal_count_at 0

abbrev pub route_count_of : List ℕ → ℕ
route_count_of w = get_or w route_count_at 0

-- for each message its identifier, and how many signals there are up to its last one
abbrev pub ids_of : List ℕ → List ℕ
ids_of w = take message_limit (drop ids_at w)

abbrev pub ends_of : List ℕ → List ℕ
ends_of w = take message_limit (drop ends_at w)

-- for each signal its number and its start
abbrev pub numbers_of : List ℕ → List ℕ
numbers_of w = take signal_limit (drop numbers_at w)

abbrev pub starts_of : List ℕ → List ℕ
starts_of w = take signal_limit (drop starts_at w)

-- for each route the place it leads from and the place it leads to
abbrev pub froms_of : List ℕ → List ℕ
froms_of w = take route_limit (drop froms_at w)

abbrev pub tos_of : List ℕ → List ℕ
tos_of w = take route_limit (drop tos_at w)

-- the columns of the messages and signals, one after the other, and those of the routes
abbrev pub message_columns_of : List ℕ → List ℕ
message_columns_of w = take message_words (drop ids_at w)

abbrev pub route_columns_of : List ℕ → List ℕ
route_columns_of w = take route_words (drop froms_at w)

-- the empty book has every entry 0
unfoldable pub empty_book : List ℕ
empty_book = replicate book_words 0

-- the words of a record, wherever it comes from: as many as a book has, of 32 bits each
pub record IsRecord (w : List ℕ) : Type 0 where
  pub long : length w ≡ book_words
  pub small : (k : ℕ) → get_or w k 0 < 2 ^ 32
