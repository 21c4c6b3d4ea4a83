-- Four texts, in bytes, the text of each line above its bytes: document 01's book, the same with its sixth line, a repeated R line, and two R
-- lines from one place. Assumes nothing: these are definitions.
use Rattle.std.specs.Prelude.{ℕ, List, [], ◌∷◌, ◌++◌}
use Rattle.books.specs.Book.{Book, Message, placement, route}

-- M·18FF21F3
abbrev pub example_m : List ℕ
example_m = 77 ∷ 9 ∷ 49 ∷ 56 ∷ 70 ∷ 70 ∷ 50 ∷ 49 ∷ 70 ∷ 51 ∷ 10 ∷ []

-- S·203·0
abbrev pub example_s203 : List ℕ
example_s203 = 83 ∷ 9 ∷ 50 ∷ 48 ∷ 51 ∷ 9 ∷ 48 ∷ 10 ∷ []

-- S·204·16
abbrev pub example_s204 : List ℕ
example_s204 = 83 ∷ 9 ∷ 50 ∷ 48 ∷ 52 ∷ 9 ∷ 49 ∷ 54 ∷ 10 ∷ []

-- R·0·18FF21F3·1·18FF21F3
abbrev pub example_r01 : List ℕ
example_r01 = 82 ∷ 9 ∷ 48 ∷ 9 ∷ 49 ∷ 56 ∷ 70 ∷ 70 ∷ 50 ∷ 49 ∷ 70 ∷ 51 ∷ 9 ∷ 49 ∷ 9 ∷ 49 ∷ 56 ∷ 70 ∷ 70 ∷ 50 ∷ 49 ∷ 70 ∷ 51 ∷ 10 ∷ []

-- R·1·18FF21F3·2·18FF21D0
abbrev pub example_r12 : List ℕ
example_r12 = 82 ∷ 9 ∷ 49 ∷ 9 ∷ 49 ∷ 56 ∷ 70 ∷ 70 ∷ 50 ∷ 49 ∷ 70 ∷ 51 ∷ 9 ∷ 50 ∷ 9 ∷ 49 ∷ 56 ∷ 70 ∷ 70 ∷ 50 ∷ 49 ∷ 68 ∷ 48 ∷ 10 ∷ []

-- R·2·18FF21D0·0·18FF21F3
abbrev pub example_r20 : List ℕ
example_r20 = 82 ∷ 9 ∷ 50 ∷ 9 ∷ 49 ∷ 56 ∷ 70 ∷ 70 ∷ 50 ∷ 49 ∷ 68 ∷ 48 ∷ 9 ∷ 48 ∷ 9 ∷ 49 ∷ 56 ∷ 70 ∷ 70 ∷ 50 ∷ 49 ∷ 70 ∷ 51 ∷ 10 ∷ []

-- R·0·18FF21F3·2·18FF21D0
abbrev pub example_r02 : List ℕ
example_r02 = 82 ∷ 9 ∷ 48 ∷ 9 ∷ 49 ∷ 56 ∷ 70 ∷ 70 ∷ 50 ∷ 49 ∷ 70 ∷ 51 ∷ 9 ∷ 50 ∷ 9 ∷ 49 ∷ 56 ∷ 70 ∷ 70 ∷ 50 ∷ 49 ∷ 68 ∷ 48 ∷ 10 ∷ []

-- document 01's book
abbrev pub first_text : List ℕ
first_text = example_m ++ example_s203 ++ example_s204 ++ example_r01 ++ example_r12

-- with a route back to the start
abbrev pub loop_text : List ℕ
loop_text = first_text ++ example_r20

-- an R line that is repeated
abbrev pub doubling_text : List ℕ
doubling_text = example_r01 ++ example_r01

-- two R lines from one place
abbrev pub fork_text : List ℕ
fork_text = example_r01 ++ example_r02

-- the books that their lines give
abbrev pub one_message : List Message
one_message = record { identifier = 419373555; placements = placement 203 0 ∷ placement 204 16 ∷ [] } ∷ []

abbrev pub first_book : Book
first_book = record { messages = one_message; routes = route 0 419373555 1 419373555 ∷ route 1 419373555 2 419373520 ∷ [] }

abbrev pub loop_book : Book
loop_book =
    record {
      messages = one_message;
      routes = route 0 419373555 1 419373555 ∷ route 1 419373555 2 419373520 ∷ route 2 419373520 0 419373555 ∷ [];
    }

abbrev pub doubling_book : Book
doubling_book = record { messages = []; routes = route 0 419373555 1 419373555 ∷ route 0 419373555 1 419373555 ∷ [] }

abbrev pub fork_book : Book
fork_book = record { messages = []; routes = route 0 419373555 1 419373555 ∷ route 0 419373555 2 419373520 ∷ [] }
