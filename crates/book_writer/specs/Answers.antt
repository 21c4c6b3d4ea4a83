-- Refusals 12 and 71, and what a call for a book's text leaves behind. An answer is its refusal's number, 0 where there is none, and how
-- many bytes it counts. Assumes nothing: these are definitions.
use Rattle.std.specs.Prelude.{◌≡◌, true, ℕ, ◌<◌, ◌≤◌, List, ◌++◌, length, drop, Result, Ok, Err}
use Rattle.books.specs.Words.{messages_taken_spec, book_of}
use Rattle.reading.specs.Written.{book_text}
use Rattle.route_tables.specs.Tables.{RoutesTaken}
use Rattle.book_writer.specs.declared.WriteRefusal.{WriteRefusal}
use Rattle.book_writer.specs.declared.WriteRefusal.TheVariants.{NotABook, NoRoom}

-- the number of each refusal, 12 of document 01 and 71 of document 02
abbrev pub write_refusal_number : WriteRefusal → ℕ
write_refusal_number NotABook = 12
write_refusal_number NoRoom = 71

-- the number of each answer; 0 is no refusal
abbrev pub wrote_number : Result ℕ WriteRefusal → ℕ
wrote_number (Ok n) = 0
wrote_number (Err why) = write_refusal_number why

-- and how many bytes it counts
abbrev pub byte_count : Result ℕ WriteRefusal → ℕ
byte_count (Ok n) = n
byte_count (Err why) = 0

-- the text of the book that words show: each M line with its S lines, in book order, then the R lines in book order
abbrev pub text_of : List ℕ → List ℕ
text_of w = book_text (book_of w)

-- all tables are those of a taken book: messages and signals, and routes
pub record TablesTaken (w : List ℕ) : Type 0 where
  pub messages : messages_taken_spec w ≡ true
  pub routes : RoutesTaken w

-- by such tables, with the room after the call: as lent where it refuses; else the text at the front, and the rest as lent
pub data WriteBy (w room : List ℕ) : ℕ → ℕ → List ℕ → Type 0 where
  -- 71: room smaller than the text
  no_room : length room < length (text_of w) → WriteBy w room 71 0 room
  -- otherwise the text
  writes : length (text_of w) ≤ length room → WriteBy w room 0 (length (text_of w)) (text_of w ++ drop (length (text_of w)) room)

-- by the words of a lent book
pub data WriteAnswer (w room : List ℕ) : ℕ → ℕ → List ℕ → Type 0 where
  -- 12: the record is that of no taken book
  not_a_book : (TablesTaken w → ⊥) → WriteAnswer w room 12 0 room
  -- otherwise by the book that the words show
  by_tables : {why n : ℕ} {after : List ℕ} → TablesTaken w → WriteBy w room why n after → WriteAnswer w room why n after
