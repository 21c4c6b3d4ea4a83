-- The text of a book in numbers: what the call returns, with the room for the text and *count as it leaves them. Assumes nothing.
use Rattle.std.specs.Prelude.{ℕ, ◌≡◌, List}
use Rattle.book_writer.specs.Answers.{WriteAnswer}
use Rattle.punnetcrest.specs.Counted.{count_left}

-- pc_book_write, with these words, room and *count, returns r and leaves the room and *count so
pub record WriteCall (words room : List ℕ) (count r : ℕ) (after : List ℕ) (counted : ℕ) : Type 0 where
  pub written : ℕ
  pub answer : WriteAnswer words room r written after
  pub count_after : counted ≡ count_left r written count
