-- "The frame lister": what one frame line prints under the messages of a book, by the figures that a value shows: thousandths, or for the
-- dash doubles ("A second program, else like the lister"). Assumes nothing.
use Rattle.std.specs.Prelude.{cond, List, [], ◌∷◌, ◌++◌, ℕ, eqb, length}
use Rattle.std.proofs.Math.Option.{Option, none, some}
use Rattle.bits.specs.Frame.{frame_bytes}
use Rattle.books.specs.Book.{Placement, Message}
use Rattle.frame_lines.specs.declared.FrameLine.TheVariants.{NotEightBytes}
use Rattle.frame_lines.specs.Meaning.{FrameMeaning, frame, ill_formed_spec, frame_line_says, frame_line_number}
use Rattle.framing.specs.declared.ReadRefusal.TheVariants.{UnknownIdentifier, WrongChecksum}
use Rattle.framing.specs.Messages.{message_with, placed_class}
use Rattle.framing.specs.Reading.{read_refusal_number, checksum_holds}
use Rattle.signal_lines.specs.declared.figures.Figures.{Figures}
use Rattle.signal_lines.specs.Printed.{reading_line, refused_frame_line, ill_formed_line}

-- a line for each signal, in the order of the S lines
unfoldable pub reading_lines : Figures → ℕ → List ℕ → List Placement → List ℕ
reading_lines figures identifier bytes [] = []
reading_lines figures identifier bytes (p ∷ ps) =
    reading_line figures identifier p.number (placed_class bytes p) ++ reading_lines figures identifier bytes ps

-- a frame of 8 bytes, by its message: refusals 22 and 23 as in reading
unfoldable pub message_listing : Figures → ℕ → List ℕ → Option Message → List ℕ
message_listing figures identifier bytes none = refused_frame_line identifier (read_refusal_number UnknownIdentifier)
message_listing figures identifier bytes (some m) =
    cond (checksum_holds m bytes)
    (reading_lines figures identifier bytes m.placements)
    (refused_frame_line identifier (read_refusal_number WrongChecksum))

-- a frame of any length: the line's own refusal, 21, comes first
unfoldable pub frame_listing : Figures → List Message → ℕ → List ℕ → List ℕ
frame_listing figures ms identifier bytes =
    cond (eqb (length bytes) frame_bytes)
    (message_listing figures identifier bytes (message_with identifier ms))
    (refused_frame_line identifier (frame_line_number (NotEightBytes identifier)))

-- what a line says is printed
abbrev pub printout_of : Figures → List Message → FrameMeaning → List ℕ
printout_of figures ms (frame identifier bytes) = frame_listing figures ms identifier bytes
printout_of figures ms ill_formed_spec = ill_formed_line

-- what a frame line, without its newline, prints
unfoldable pub printout : Figures → List Message → List ℕ → List ℕ
printout figures ms line = printout_of figures ms (frame_line_says line)
