-- A text read line by line to a book: the first bad line, on it the lowest of 2 to 9. Assumes nothing: these are definitions.
use Rattle.std.specs.Prelude.{ℕ, zero, suc, List, [], ◌∷◌, ◌++◌, map}
use Rattle.parts.specs.Parts.{lines}
use Rattle.line.specs.Meaning.{meaning_of}
use Rattle.line.specs.declared.Line.{Line}
use Rattle.line.specs.declared.Line.TheVariants as line
use Rattle.books.specs.Book.{Book, no_book, placement, route, with_message, with_signal, with_route}
use Rattle.books.specs.Lines.{message_refusal, signal_refusal, route_refusal}

-- why a line is refused after the lines that gave the book: 2 for its form, else the lowest of 3 to 9; 0 where it is taken
unfoldable pub refusal_of : Book → Line → ℕ
refusal_of b (line.Message i) = message_refusal b.messages i
refusal_of b (line.Signal n s) = signal_refusal b.messages (placement n s)
refusal_of b (line.Route a i c j) = route_refusal b.routes a i c j
refusal_of b line.IllFormed = 2

-- the book with one line more
unfoldable pub with_line : Book → Line → Book
with_line b (line.Message i) = with_message b i
with_line b (line.Signal n s) = with_signal b (placement n s)
with_line b (line.Route a i c j) = with_route b (route a i c j)
with_line b line.IllFormed = b

-- the line numbers of the book's routes, with those of one line more
unfoldable pub numbered_with : List ℕ → ℕ → Line → List ℕ
numbered_with at n (line.Route a i c j) = at ++ (n ∷ [])
numbered_with at n (line.Message i) = at
numbered_with at n (line.Signal m s) = at
numbered_with at n line.IllFormed = at

-- what the lines come to: a book, with the line number of each of its routes, or a refusal with its line
pub data Outcome : Type 0 where
  passed : Book → List ℕ → Outcome
  refused : ℕ → ℕ → Outcome

unfoldable pub onward : ℕ → ℕ → Outcome → Outcome
onward zero n later = later
onward (suc why) n later = refused (suc why) n

-- the lines from number n on, after those that gave the book
unfoldable pub read_from : ℕ → Book → List ℕ → List Line → Outcome
read_from n b at [] = passed b at
read_from n b at (l ∷ ls) = onward (refusal_of b l) n (read_from (suc n) (with_line b l) (numbered_with at n l) ls)

-- what the lines of a text say
unfoldable pub meanings : List ℕ → List Line
meanings text = map meaning_of (lines text)

-- the lines of a text, counted from 1, on the empty book
unfoldable pub lines_read : List ℕ → Outcome
lines_read text = read_from 1 no_book [] (meanings text)
