-- The working side: a frame as its word, a message as its numbers and starts, and a printout that may not fit. Assumes nothing.
use Rattle.std.specs.Prelude.{◌≡◌, cond, List, [], ◌∷◌, ◌++◌, ℕ, ◌+◌, ◌-◌, ◌*◌, ◌≤◌, leb, length, Option, Some, None}
use Rattle.std.proofs.lemmas.List.Edits.{sets}
use Rattle.bits.specs.Word.{bytes_of}
use Rattle.books.specs.Book.{Placement}
use Rattle.books.specs.Lines.{frame_bits}
use Rattle.books.specs.Words.{side_by_side, messages_of}
use Rattle.messages.specs.Signals.{AllFit, class_from, check_holds}
use Rattle.framing.specs.declared.ReadRefusal.TheVariants.{WrongChecksum}
use Rattle.framing.specs.Messages.{message_with}
use Rattle.framing.specs.Reading.{read_refusal_number}
use Rattle.printing.specs.Put.{PutWithin}
use Rattle.signal_lines.specs.declared.figures.Figures.{Figures}
use Rattle.signal_lines.specs.Printed.{reading_line, refused_frame_line, listed_line_room}
use Rattle.listing.specs.Printout.{message_listing}

-- a line for each signal, of a frame's word
unfoldable pub word_lines : Figures → ℕ → ℕ → List Placement → List ℕ
word_lines figures identifier word [] = []
word_lines figures identifier word (p ∷ ps) = reading_line figures identifier p.number (class_from word p) ++ word_lines figures identifier word ps

-- those lines, of a message by its numbers and starts, stand at a place of the room, and are no longer than their room
abbrev pub SignalsPut : List ℕ → ℕ → Figures → ℕ → ℕ → List ℕ → List ℕ → List ℕ → ℕ → Type 0
SignalsPut old at figures identifier word ns ss new next =
    PutWithin old at (listed_line_room * length ns) (word_lines figures identifier word (side_by_side ns ss)) new next

-- numbers and starts of placements that lie within the frame, and room for their lines
pub record Roomy (out : List ℕ) (at : ℕ) (ns ss : List ℕ) : Type 0 where
  pub same : length ss ≡ length ns
  pub fit : AllFit (side_by_side ns ss)
  pub inside : at + listed_line_room * length ns ≤ length out

-- at most 64 of them, to be listed at a place of the room
pub record Listable (out : List ℕ) (at : ℕ) (ns ss : List ℕ) : Type 0 where
  pub same : length ss ≡ length ns
  pub fit : AllFit (side_by_side ns ss)
  pub many : length ns ≤ frame_bits
  pub inside : at ≤ length out

-- a frame's word by its message: refusal 23, or a line for each signal
unfoldable pub message_text : Figures → ℕ → ℕ → List ℕ → List ℕ → List ℕ
message_text figures identifier word ns ss =
    cond (check_holds identifier word ns)
    (word_lines figures identifier word (side_by_side ns ss))
    (refused_frame_line identifier (read_refusal_number WrongChecksum))

-- a frame's word, by the words of a book
abbrev pub word_listing : Figures → List ℕ → ℕ → ℕ → List ℕ
word_listing figures words identifier word = message_listing figures identifier (bytes_of word) (message_with identifier (messages_of words))

-- a text put at a place where it fits what is left
unfoldable pub fitted : List ℕ → ℕ → List ℕ → Option ℕ × List ℕ
fitted lent at text =
    cond (leb (length text) (length lent - at)) (Some (at + length text), sets lent at text) (None, lent)

-- the call answers so, and leaves the room so
abbrev pub PutIfFits : List ℕ → ℕ → List ℕ → List ℕ → Option ℕ → Type 0
PutIfFits old at text new r = ◌≡◌ {A = Option ℕ × List ℕ} (r, new) (fitted old at text)
