-- "Order in the book reader: 1; then the first bad line, on it the lowest of 2 to 9", as a sentence over the lines. Assumes nothing: these
-- are definitions.
use Rattle.std.specs.Prelude.{◌≡◌, ℕ, suc, ◌≤◌, List, [], ◌∷◌, ◌++◌, length}
use Rattle.record.specs.Limits.{text_limit}
use Rattle.line.specs.declared.Line.{Line}
use Rattle.line.specs.declared.Line.TheVariants as line
use Rattle.books.specs.Book.{Book, no_book, placement}
use Rattle.books.specs.Due.{MessageDue, SignalDue, RouteDue}
use Rattle.reading.specs.Reading.{with_line, meanings}

-- which of 2 to 9 a line deserves after the lines that gave the book, in no order: 2 for its form, 3 to 9 by the table of refusals
pub data LineDue (b : Book) : Line → ℕ → Type 0 where
  form : LineDue b line.IllFormed 2
  message : {i n : ℕ} → MessageDue b.messages i n → LineDue b (line.Message i) n
  signal : {number start n : ℕ} → SignalDue b.messages (placement number start) n → LineDue b (line.Signal number start) n
  route : {a i c j n : ℕ} → RouteDue b.routes a i c j n → LineDue b (line.Route a i c j) n

-- lines that pass, each after those before it, and the book that they give
pub data Pass : List Line → Book → Type 0 where
  none : Pass [] no_book
  more : {ls : List Line} {b : Book} (l : Line) → Pass ls b → ((n : ℕ) → LineDue b l n → ⊥) → Pass (ls ++ (l ∷ [])) (with_line b l)

-- the text is not too long, and all its lines pass
pub record AllPass (text : List ℕ) : Type 0 where
  pub short : length text ≤ text_limit
  pub book : Book
  pub passes : Pass (meanings text) book

-- line n of the text is the first that doesn't pass, and why is the lowest that it deserves
pub record FirstBad (text : List ℕ) (why n : ℕ) : Type 0 where
  pub before : List Line
  pub bad : Line
  pub after : List Line
  pub whole : meanings text ≡ before ++ (bad ∷ after)
  pub number : n ≡ suc (length before)
  pub book : Book
  pub passes : Pass before book
  pub deserved : LineDue book bad why
  pub lowest : (k : ℕ) → LineDue book bad k → why ≤ k
