-- The listing of a buffer of frame lines: its whole lines from the front, one after another, as long as the next one's printout
-- fits the room that is left. Assumes nothing.
use Rattle.std.specs.Prelude.{cond, List, [], ◌∷◌, ◌++◌, ℕ, suc, ◌+◌, ◌-◌, leb, length, Result, Ok, Err}
use Rattle.books.specs.Book.{Message}
use Rattle.books.specs.Words.{messages_of, messages_taken_spec}
use Rattle.framing.specs.Messages.{written}
use Rattle.parts.specs.Parts.{TextLine, ended, unended, lines}
use Rattle.signal_lines.specs.declared.figures.Figures.{Figures}
use Rattle.listing.specs.declared.Listed.{Listed}
use Rattle.listing.specs.declared.ListRefusal.{ListRefusal}
use Rattle.listing.specs.declared.ListRefusal.TheVariants.{NotABook}
use Rattle.listing.specs.Printout.{printout}

-- document 01's number for each answer; 0 is no refusal
abbrev pub listed_number : Result Listed ListRefusal → ℕ
listed_number (Ok listed) = 0
listed_number (Err NotABook) = 12

-- how many bytes of a text are listed, and what they print
pub record ListedLines : Type 0 where
  pub used : ℕ
  pub text : List ℕ

abbrev pub no_lines_spec : ListedLines
no_lines_spec = record { used = 0; text = [] }

-- a whole line, which its newline ends, and the lines after it
abbrev pub line_then : List ℕ → List ℕ → ListedLines → ListedLines
line_then line text rest = record { used = suc (length line) + rest.used; text = text ++ rest.text }

-- the lines from the front that fit the room, by what each prints
unfoldable pub lines_that_fit : (List ℕ → List ℕ) → ℕ → List TextLine → ListedLines
lines_that_fit print room [] = no_lines_spec
lines_that_fit print room (unended l ∷ ls) = no_lines_spec
lines_that_fit print room (ended l ∷ ls) =
    cond (leb (length (print l)) room)
    (line_then l (print l) (lines_that_fit print (room - length (print l)) ls))
    no_lines_spec

-- the answer, and what stands in the lent room
abbrev pub listed_answer : ListedLines → List ℕ → Result Listed ListRefusal × List ℕ
listed_answer listed lent = (Ok (record { used = listed.used; written = length listed.text }), written listed.text lent)

-- a buffer of frame lines listed by messages into lent room
abbrev pub listing_by : Figures → List Message → List ℕ → List ℕ → Result Listed ListRefusal × List ℕ
listing_by figures ms text lent = listed_answer (lines_that_fit (printout figures ms) (length lent) (lines text)) lent

-- and by the words of a book
unfoldable pub listing : Figures → List ℕ → List ℕ → List ℕ → Result Listed ListRefusal × List ℕ
listing figures words text lent = cond (messages_taken_spec words) (listing_by figures (messages_of words) text lent) (Err NotABook, lent)
