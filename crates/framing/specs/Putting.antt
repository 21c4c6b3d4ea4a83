-- The working side of packing, as the code goes about it: a word of ones, each count put at its place, the checksum last.
-- proofs/FrameSent.antt shows that its bytes are the packed frame (`put_sent`). Assumes nothing: these are definitions.
use Rattle.std.specs.Prelude.{cond, List, [], ◌∷◌, ℕ, ◌-◌, ◌^◌, eqb}
use Rattle.books.specs.Book.{Placement, Message}
use Rattle.books.specs.Lines.{frame_bits}
use Rattle.bits.specs.Word.{bytes_of, placed}
use Rattle.bits.specs.Checksum.{checksum_of}
use Rattle.catalogue.specs.Find.{bits_of_spec}
use Rattle.framing.specs.Messages.{checksum_number, checksum_start, checksum_bits, places_checksum}

-- the word of a frame whose every bit is 1
abbrev pub all_ones : ℕ
all_ones = 2 ^ frame_bits - 1

-- the word w with each value but that of 503 at its place
unfoldable pub put : ℕ → List Placement → List ℕ → ℕ
put w [] vs = w
put w (p ∷ ps) [] = w
put w (p ∷ ps) (v ∷ vs) =
    cond (eqb p.number checksum_number) (put w ps vs)
    (put (placed w p.start (bits_of_spec p.number) v) ps vs)

-- and with the checksum, where the message places it
unfoldable pub with_checksum : ℕ → List Placement → ℕ → ℕ
with_checksum identifier ps w =
    cond (places_checksum ps)
    (placed w checksum_start checksum_bits (checksum_of identifier (bytes_of w)))
    w

-- the bytes of that word
unfoldable pub put_frame : Message → List ℕ → List ℕ
put_frame m vs = bytes_of (with_checksum m.identifier m.placements (put all_ones m.placements vs))
