-- One line more in a book's words: what is answered, and what the words are then. Assumes nothing: these are definitions.
use Rattle.std.specs.Prelude.{◌≡◌, ℕ, zero, suc, ◌≤◌, List, length, Result, Ok, Err, IfOk}
use Rattle.answers.specs.declared.Refusal.{Refusal}
use Rattle.answers.specs.Numbers.{number}
use Rattle.books.specs.Book.{Placement, Book, numbers, all_placements, last_placements, route, with_message, with_signal, with_route}
use Rattle.books.specs.Lines.{message_refusal, signal_refusal, route_refusal, message_limit, signal_limit, route_limit}
use Rattle.books.specs.Words.{words_of}
use Rattle.placing.specs.declared.Filled.{Filled}
use Rattle.placing.specs.Filling.{Fills}

-- the refusal number of each answer, 0 where the line is taken
abbrev pub added_number : {A : Type 0} → Result A Refusal → ℕ
added_number (Ok done) = 0
added_number (Err why) = number why

-- no more lines of each kind than a book may have
pub record Within (b : Book) : Type 0 where
  pub messages : length b.messages ≤ message_limit
  pub signals : length (all_placements b.messages) ≤ signal_limit
  pub routes : length b.routes ≤ route_limit

-- the words are those of the book, which is within the limits
pub record Holds (w : List ℕ) (b : Book) : Type 0 where
  pub words : w ≡ words_of b
  pub within : Within b

-- the words are those of some book within the limits
abbrev pub OfBook : List ℕ → Type 0
OfBook w = (b : Book) × Holds w b

-- the words are those of the book, and so much is filled by the signals of its last message
pub record HoldsFilled (w : List ℕ) (f : Filled) (b : Book) : Type 0 where
  pub holds : Holds w b
  pub fills : Fills (last_placements b.messages) f

-- the same of a book
abbrev pub OfBookFilled : List ℕ → Filled → Type 0
OfBookFilled w f = (b : Book) × HoldsFilled w f b

-- the new book where nothing refuses it, and else the old one
unfoldable pub unless : ℕ → Book → Book → Book
unless zero old new = new
unless (suc refusal) old new = old

-- the answer gives the refusal, and the words are those of the book with the line, or of the book where it is refused
pub record LineJudged {A : Type 0} (refusal : ℕ) (old new : Book) (r : Result A Refusal) (w : List ℕ) : Type 0 where
  pub answer : added_number r ≡ refusal
  pub words : w ≡ words_of (unless refusal old new)

-- what an `M` line and an `R` line make of the words of any book
abbrev pub MessageAdded : List ℕ → ℕ → Result Unit Refusal → List ℕ → Type 0
MessageAdded words i r left = (b : Book) → Holds words b → LineJudged (message_refusal b.messages i) b (with_message b i) r left

abbrev pub RouteAdded : List ℕ → ℕ → ℕ → ℕ → ℕ → Result Unit Refusal → List ℕ → Type 0
RouteAdded words a i c j r left = (b : Book) → Holds words b → LineJudged (route_refusal b.routes a i c j) b (with_route b (route a i c j)) r left

-- so with an `S` line, and where it is taken the answer has what the signals of the last message fill then
pub record SignalJudged (b : Book) (p : Placement) (r : Result Filled Refusal) (w : List ℕ) : Type 0 where
  pub judged : LineJudged (signal_refusal b.messages p) b (with_signal b p) r w
  pub fills : IfOk r (Fills (last_placements (with_signal b p).messages))

-- the signals before one in its message: the column has their numbers, and so much is filled by them
pub record Earlier (column : List ℕ) (f : Filled) (ps : List Placement) : Type 0 where
  pub listed : numbers ps ≡ column
  pub fills : Fills ps f
