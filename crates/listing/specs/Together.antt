-- Listings put together: what the whole lines of a text print, and successive calls of `list`, each on what the call before left and
-- into a room of its own. The theorems are in proofs/Together.antt and proofs/GoesOn.antt. Assumes nothing: these are definitions.
use Rattle.std.specs.Prelude.{List, [], ◌∷◌, ◌++◌, ℕ, ◌*◌, take, drop, Result, Ok, Err}
use Rattle.books.specs.Lines.{frame_bits}
use Rattle.parts.specs.Parts.{TextLine, ended, unended, lines}
use Rattle.signal_lines.specs.declared.figures.Figures.{Figures}
use Rattle.signal_lines.specs.Printed.{listed_line_room}
use Rattle.listing.specs.declared.Listed.{Listed}
use Rattle.listing.specs.declared.ListRefusal.{ListRefusal}
use Rattle.listing.specs.declared.ListRefusal.TheVariants.{NotABook}
use Rattle.listing.specs.Listing.{listing}

-- the lines that a newline ends
unfoldable pub ended_lines : List TextLine → List (List ℕ)
ended_lines [] = []
ended_lines (ended l ∷ ls) = l ∷ ended_lines ls
ended_lines (unended l ∷ ls) = ended_lines ls

-- the line that none ends, if there is one
unfoldable pub unended_line : List TextLine → List ℕ
unended_line [] = []
unended_line (ended l ∷ ls) = unended_line ls
unended_line (unended l ∷ ls) = l

-- the whole lines of a text, without their newlines, and the bytes after its last newline
abbrev pub whole_lines : List ℕ → List (List ℕ)
whole_lines text = ended_lines (lines text)

abbrev pub unfinished : List ℕ → List ℕ
unfinished text = unended_line (lines text)

-- what lines print, one after another, by what each prints
unfoldable pub printouts : (List ℕ → List ℕ) → List (List ℕ) → List ℕ
printouts print [] = []
printouts print (l ∷ ls) = print l ++ printouts print ls

-- what the whole lines of a text print
abbrev pub whole_listing : (List ℕ → List ℕ) → List ℕ → List ℕ
whole_listing print text = printouts print (whole_lines text)

-- what a call printed, by its answer and what stands in its room: the bytes that were written
abbrev pub printed_by : Result Listed ListRefusal → List ℕ → List ℕ
printed_by (Ok listed) out = take listed.written out
printed_by (Err NotABook) out = []

-- and what it left of its text: the bytes that were not used
abbrev pub left_by : Result Listed ListRefusal → List ℕ → List ℕ
left_by (Ok listed) text = drop listed.used text
left_by (Err NotABook) text = text

-- what calls printed, one after another, and what they left of the text
pub record Called : Type 0 where
  pub printed : List ℕ
  pub left : List ℕ

-- successive calls by the words of a book, one for each of the rooms that are lent
unfoldable pub calls : Figures → List ℕ → List (List ℕ) → List ℕ → Called
calls figures words [] text = record { printed = []; left = text }
calls figures words (lent ∷ rooms) text =
    let answer = listing figures words text lent in
    let after = calls figures words rooms (left_by answer.0 text) in
    record { printed = printed_by answer.0 answer.1 ++ after.printed; left = after.left }

-- no printout under a taken book is longer: a line for each signal, of which a message has at most as many as a frame has bits
abbrev pub longest_printout : ℕ
longest_printout = listed_line_room * frame_bits
