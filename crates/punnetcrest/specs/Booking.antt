-- Reading a book in numbers: what the call returns, with the book and *line as it leaves them. Assumes nothing.
use Rattle.std.specs.Prelude.{ℕ, ◌≡◌, List}
use Rattle.answers.specs.Numbers.{Said, taken, refused}
use Rattle.book.specs.Answered.{Answered}

-- the number returned, and *line: 0 where the text is taken
abbrev pub number_in : Said → ℕ
number_in (taken m s r) = 0
number_in (refused why line) = why

abbrev pub line_in : Said → ℕ
line_in (taken m s r) = 0
line_in (refused why line) = line

-- pc_book_read, with this text, returns r and leaves the words of the book and *line so
pub record BookRead (text : List ℕ) (r : ℕ) (words : List ℕ) (at : ℕ) : Type 0 where
  pub said : Said
  pub answer : Answered text said words
  pub number : r ≡ number_in said
  pub line : at ≡ line_in said
