-- What taking lines into lent words answers, and what the words are then. Assumes nothing: these are definitions.
use Rattle.std.specs.Prelude.{◌≡◌, ℕ, Bool, true, false, List, Result, Ok, Err, IfOk}
use Rattle.record.specs.Columns.{empty_book}
use Rattle.answers.specs.declared.Refusal.{Refusal}
use Rattle.answers.specs.declared.Refused.{Refused}
use Rattle.answers.specs.Numbers.{number}
use Rattle.line.specs.declared.Line.{Line}
use Rattle.line.specs.declared.Line.TheVariants as line
use Rattle.books.specs.Book.{Placement, Book, last_placements}
use Rattle.books.specs.Words.{words_of}
use Rattle.reading.specs.Reading.{passed, refused, refusal_of, with_line, lines_read}
use Rattle.placing.specs.declared.Filled.{Filled}
use Rattle.placing.specs.Filling.{Fills}
use Rattle.tables.specs.Adding.{Holds, unless, added_number}

-- document 01's number of what refused a line, 0 where it is taken
abbrev pub step_number : Result Filled Refusal → ℕ
step_number r = added_number r

-- where a line is taken, the answer has what the signals fill
abbrev pub FillsThen : List Placement → Result Filled Refusal → Type 0
FillsThen ps r = IfOk r (Fills ps)

-- the line is judged after the book b; where it is taken it is in the words, and the answer has what the last message's signals fill
pub record Took (b : Book) (l : Line) (r : Result Filled Refusal) (w : List ℕ) : Type 0 where
  pub answer : step_number r ≡ refusal_of b l
  pub words : w ≡ words_of (unless (refusal_of b l) b (with_line b l))
  pub fills : FillsThen (last_placements (with_line b l).messages) r

-- the words of the empty book
abbrev pub Empty : List ℕ → Type 0
Empty w = w ≡ empty_book

-- the lines of the text pass, and the words are those of the book that they give
pub record PassedTo (text w : List ℕ) : Type 0 where
  pub book : Book
  pub numbers : List ℕ
  pub read : lines_read text ≡ passed book numbers
  pub holds : Holds w book

abbrev pub Came : List ℕ → Result Unit Refused → List ℕ → Type 0
Came text (Ok done) w = PassedTo text w
Came text (Err r) w = (lines_read text ≡ refused (number r.why) r.line) × Empty w

abbrev pub is_route_spec : Line → Bool
is_route_spec (line.Message i) = false
is_route_spec (line.Signal n s) = false
is_route_spec (line.Route a i b j) = true
is_route_spec line.IllFormed = false
