-- "Order in the book reader: 1; then the first bad line, on it the lowest of 2 to 9; then 10; then 11." What a text is answered
-- with, and what the lent words are then. Assumes nothing: these are definitions.
use Rattle.std.specs.Prelude.{◌≡◌, ℕ, ◌≤◌, ◌<◌, List, length, get_or}
use Rattle.record.specs.Limits.{text_limit}
use Rattle.record.specs.Columns.{empty_book}
use Rattle.chains.specs.Chain.{OnClosed, LoopFree, BeginsDoubling}
use Rattle.verdict.specs.Verdicts.{Lowest}
use Rattle.answers.specs.Numbers.{Said, taken, refused}
use Rattle.books.specs.Book.{Book, all_placements}
use Rattle.books.specs.Words.{words_of}
use Rattle.reading.specs.Reading.{passed, lines_read}
use Rattle.reading.specs.Reading as lines
use Rattle.reading.specs.Taken.{froms, tos, TakenWith}

-- the lines of a text that is not too long pass, to a book with the line numbers of its routes
pub record Passes (text : List ℕ) (b : Book) (at : List ℕ) : Type 0 where
  pub short : length text ≤ text_limit
  pub read : lines_read text ≡ passed b at

pub data Answered (text : List ℕ) : Said → List ℕ → Type 0 where
  -- 1: line 0, empty book
  too_long : text_limit < length text → Answered text (refused 1 0) empty_book
  -- 2 to 9: the first bad line, empty book
  bad_line : {why n : ℕ} → length text ≤ text_limit → lines_read text ≡ lines.refused why n → Answered text (refused why n) empty_book
  -- 10: the lowest R line on a closed chain, empty book
  closed_chain : {b : Book} {at : List ℕ} {i : ℕ} → Passes text b at → Lowest (OnClosed (froms b.routes) (tos b.routes)) i
      → Answered text (refused 10 (get_or at i 0)) empty_book
  -- 11: no closed chain, and the lowest R line that begins one of two different chains that join the same two places; empty book
  two_chains : {b : Book} {at : List ℕ} {i : ℕ} → Passes text b at → LoopFree (froms b.routes) (tos b.routes)
      → Lowest (BeginsDoubling (froms b.routes) (tos b.routes)) i → Answered text (refused 11 (get_or at i 0)) empty_book
  -- otherwise taken, with the counts of its M, S and R lines and the tables of its book
  taken_with : {b : Book} → TakenWith text b
      → Answered text (taken (length b.messages) (length (all_placements b.messages)) (length b.routes)) (words_of b)
