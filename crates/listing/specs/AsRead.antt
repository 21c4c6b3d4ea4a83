-- A listing beside reading: the refusals that it prints, and the frames of which it prints readings. The theorems are in
-- proofs/AsRead.antt. Assumes nothing: these are definitions.
use Rattle.std.specs.Prelude.{◌≡◌, List, ℕ, Result, Ok, Err}
use Rattle.std.proofs.Math.Option.{some}
use Rattle.books.specs.Book.{Message}
use Rattle.framing.specs.declared.ReadRefusal.{ReadRefusal}
use Rattle.framing.specs.declared.ReadRefusal.TheVariants.{NotABook, NotEightBytes, UnknownIdentifier, WrongChecksum, TooLittleRoom}
use Rattle.framing.specs.Messages.{message_with}
use Rattle.framing.specs.Reading.{Slices, readings, read_by_messages}
use Rattle.signal_lines.specs.declared.figures.Figures.{Figures}
use Rattle.listing.specs.Printout.{reading_lines, frame_listing}

-- the refusals of a frame; room is not asked in a listing
abbrev pub Refuses : Result ℕ ReadRefusal → Type 0
Refuses (Ok n) = ⊥
Refuses (Err NotABook) = ⊥
Refuses (Err NotEightBytes) = Unit
Refuses (Err UnknownIdentifier) = Unit
Refuses (Err WrongChecksum) = Unit
Refuses (Err TooLittleRoom) = ⊥

-- a frame that reading gives readings of
pub record ListedAsRead (figures : Figures) (ms : List Message) (identifier : ℕ) (bytes : List ℕ) (lent : Slices) : Type 0 where
  pub message : Message
  pub found : message_with identifier ms ≡ some message
  pub printed : frame_listing figures ms identifier bytes ≡ reading_lines figures identifier bytes message.placements
  pub read : (read_by_messages ms identifier bytes lent).1 ≡ readings bytes message.placements lent
