-- Reading a frame by a book: refusals 12, 21, 22, 23, 24 in this order, each leaving the lent slices as they were; otherwise each
-- placement's raw count, class and thousandths, in the order of the S lines. Assumes nothing: these are definitions.
use Rattle.std.specs.Prelude.{Bool, cond, ◌||◌, not, List, map, ℕ, min, eqb, leb, ℤ, pos, length, Result, Ok, Err}
use Rattle.std.proofs.Math.Option.{Option, none, some}
use Rattle.books.specs.Book.{Placement, Message}
use Rattle.books.specs.Words.{messages_of, messages_taken_spec}
use Rattle.bits.specs.Frame.{frame_bytes, count_at}
use Rattle.bits.specs.Checksum.{checksum_of}
use Rattle.catalogue.specs.declared.Class.{Class}
use Rattle.catalogue.specs.declared.NoClass.{NoClass}
use Rattle.catalogue.specs.declared.Class.TheVariants.{Value, Invalid, Absent, Error, Reserved, Outside}
use Rattle.catalogue.specs.declared.NoClass.TheVariants.{NotInCatalogue, TooWide}
use Rattle.framing.specs.declared.ReadRefusal.{ReadRefusal}
use Rattle.framing.specs.declared.ReadRefusal.TheVariants.{NotABook, NotEightBytes, UnknownIdentifier, WrongChecksum, TooLittleRoom}
use Rattle.framing.specs.Messages.{checksum_start, checksum_bits, message_with, places_checksum, count_of, placed_class, written}

-- document 01's number of each refusal
abbrev pub read_refusal_number : ReadRefusal → ℕ
read_refusal_number NotABook = 12
read_refusal_number NotEightBytes = 21
read_refusal_number UnknownIdentifier = 22
read_refusal_number WrongChecksum = 23
read_refusal_number TooLittleRoom = 24

-- and of each answer; 0 is no refusal
abbrev pub reading_number : Result ℕ ReadRefusal → ℕ
reading_number (Ok n) = 0
reading_number (Err why) = read_refusal_number why

-- the code of a class in the lent slice of classes; the last two do not come there, as a placed signal is in the catalogue and its count
-- fits (proofs/Classes.antt)
abbrev pub class_code : Result Class NoClass → ℕ
class_code (Ok (Value t)) = 0
class_code (Ok (Invalid r)) = 1
class_code (Ok (Absent r)) = 2
class_code (Ok (Error r)) = 3
class_code (Ok (Reserved r)) = 4
class_code (Ok (Outside r)) = 5
class_code (Err NotInCatalogue) = 6
class_code (Err TooWide) = 7

-- the thousandths of a value; 0 where the class is no value
abbrev pub thousandths_of_spec : Result Class NoClass → ℤ
thousandths_of_spec (Ok (Value t)) = t.0
thousandths_of_spec (Ok (Invalid r)) = pos 0
thousandths_of_spec (Ok (Absent r)) = pos 0
thousandths_of_spec (Ok (Error r)) = pos 0
thousandths_of_spec (Ok (Reserved r)) = pos 0
thousandths_of_spec (Ok (Outside r)) = pos 0
thousandths_of_spec (Err e) = pos 0

-- a message that places 503 is checked: the whole field is the checksum
unfoldable pub checksum_holds : Message → List ℕ → Bool
checksum_holds m frame =
    not (places_checksum m.placements) ||
    eqb (count_at frame checksum_start checksum_bits) (checksum_of m.identifier frame)

-- the three lent slices: raw counts, class codes, thousandths
pub record Slices : Type 0 where
  pub raws : List ℕ
  pub classes : List ℕ
  pub thousandths : List ℤ

-- room for readings: the shortest of the three
abbrev pub room : Slices → ℕ
room lent = min (length lent.raws) (min (length lent.classes) (length lent.thousandths))

-- what stands in the slices when the message has been read
abbrev pub readings : List ℕ → List Placement → Slices → Slices
readings frame ps lent =
    record {
      raws = written (map (λ (p : Placement). count_of frame p) ps) lent.raws;
      classes = written (map (λ (p : Placement). class_code (placed_class frame p)) ps) lent.classes;
      thousandths = written (map (λ (p : Placement). thousandths_of_spec (placed_class frame p)) ps) lent.thousandths;
    }

-- a frame of 8 bytes read by its message
unfoldable pub read_by_message : Option Message → List ℕ → Slices → Result ℕ ReadRefusal × Slices
read_by_message none frame lent = (Err UnknownIdentifier, lent)
read_by_message (some m) frame lent =
    cond (checksum_holds m frame)
    (cond (leb (length m.placements) (room lent))
    (Ok (length m.placements), readings frame m.placements lent)
    (Err TooLittleRoom, lent))
    (Err WrongChecksum, lent)

-- a frame read by the messages of a taken book
unfoldable pub read_by_messages : List Message → ℕ → List ℕ → Slices → Result ℕ ReadRefusal × Slices
read_by_messages ms identifier frame lent =
    cond (eqb (length frame) frame_bytes)
    (read_by_message (message_with identifier ms) frame lent)
    (Err NotEightBytes, lent)

-- a frame read by the words of a book
unfoldable pub reading : List ℕ → ℕ → List ℕ → Slices → Result ℕ ReadRefusal × Slices
reading words identifier frame lent =
    cond (messages_taken_spec words)
    (read_by_messages (messages_of words) identifier frame lent)
    (Err NotABook, lent)
