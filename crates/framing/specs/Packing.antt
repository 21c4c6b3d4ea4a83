-- Packing a frame by a book: refusals 12, 22, 25, 21, then the first bad position, 26 before 27 (503 is skipped), each leaving the lent
-- frame as it was; otherwise each frame bit is the bit of the value placed there, that of 503 being the checksum, and 1 where no signal
-- is placed. specs/Packed.antt says the same as what holds of a frame; proofs/FrameSent.antt and proofs/PackedOnce.antt show that it holds
-- of this one and no other. specs/Putting.antt is how the code goes about it. Assumes nothing: these are definitions.
use Rattle.std.specs.Prelude.{Bool, true, false, cond, List, [], ◌∷◌, map, ℕ, zero, suc, ◌+◌, ◌-◌, ◌*◌, ◌/◌, ◌%◌, ◌^◌, eqb, leb, length, Result, Ok, Err}
use Rattle.std.proofs.Math.Option.{Option, none, some}
use Rattle.books.specs.Belonging.{bit_belongs}
use Rattle.books.specs.Book.{Placement, Message}
use Rattle.books.specs.Words.{messages_of, messages_taken_spec}
use Rattle.bits.specs.Frame.{frame_bytes}
use Rattle.bits.specs.Checksum.{checksum_of}
use Rattle.catalogue.specs.Find.{bits_of_spec}
use Rattle.catalogue.specs.Class.{class_of_spec}
use Rattle.catalogue.specs.declared.Class.{Class}
use Rattle.catalogue.specs.declared.NoClass.{NoClass}
use Rattle.catalogue.specs.declared.Class.TheVariants as Of
use Rattle.framing.specs.declared.PackRefusal.{PackRefusal}
use Rattle.framing.specs.declared.PackRefusal.TheVariants.{NotABook, UnknownIdentifier, WrongCountOfValues, NotEightBytes, TooWide, ReservedOrOutside}
use Rattle.framing.specs.Messages.{checksum_number, message_with}

-- document 01's number of each refusal
abbrev pub pack_refusal_number : PackRefusal → ℕ
pack_refusal_number NotABook = 12
pack_refusal_number UnknownIdentifier = 22
pack_refusal_number WrongCountOfValues = 25
pack_refusal_number NotEightBytes = 21
pack_refusal_number TooWide = 26
pack_refusal_number ReservedOrOutside = 27

-- and of each answer; 0 is no refusal
abbrev pub packing_number : Result (Unit {0}) PackRefusal → ℕ
packing_number (Ok packed) = 0
packing_number (Err why) = pack_refusal_number why

-- a count of this class is sent; reserved and outside are not. A refusal doesn't come: a placed signal is in the catalogue
-- (proofs/Classes.antt), and one too wide is refused before
abbrev pub packable : Result Class NoClass → Bool
packable (Ok (Of.Value t)) = true
packable (Ok (Of.Invalid r)) = true
packable (Ok (Of.Absent r)) = true
packable (Ok (Of.Error r)) = true
packable (Ok (Of.Reserved r)) = false
packable (Ok (Of.Outside r)) = false
packable (Err e) = false

-- the first bad position, with 26 before 27; 503 is skipped
unfoldable pub judged_values : List Placement → List ℕ → Result (Unit {0}) PackRefusal
judged_values [] vs = Ok tt
judged_values (p ∷ ps) [] = Ok tt
judged_values (p ∷ ps) (v ∷ vs) =
    cond (eqb p.number checksum_number) (judged_values ps vs)
    (cond (leb (2 ^ bits_of_spec p.number) v) (Err TooWide)
    (cond (packable (class_of_spec p.number (record { 0 = v }))) (judged_values ps vs)
    (Err ReservedOrOutside)))

-- ---- the frame that is sent, bit by bit

-- the value that is sent: of 503 the checksum, whatever is given
abbrev pub value_sent : ℕ → Placement → ℕ → ℕ
value_sent checksum p v = cond (eqb p.number checksum_number) checksum v

-- what is sent at frame bit k: the bit of the value placed there, whose weight 2^j is at frame bit start + j, and 1 where none is placed
unfoldable pub bit_sent : ℕ → List Placement → List ℕ → ℕ → ℕ
bit_sent checksum [] vs k = 1
bit_sent checksum (p ∷ ps) [] k = 1
bit_sent checksum (p ∷ ps) (v ∷ vs) k =
    cond (bit_belongs p k) (value_sent checksum p v / 2 ^ (k - p.start) % 2)
    (bit_sent checksum ps vs k)

-- the number of these n bits, bit j by its weight 2^j
unfoldable pub weighed : (ℕ → ℕ) → ℕ → ℕ
weighed bit zero = 0
weighed bit (suc j) = weighed bit j + bit j * 2 ^ j

-- the frame of these frame bits: bit j of byte i is frame bit 8 i + j
abbrev pub byte_of : (ℕ → ℕ) → ℕ → ℕ
byte_of bit i = weighed (λ j. bit (8 * i + j)) 8

abbrev pub frame_of : (ℕ → ℕ) → List ℕ
frame_of bit = map (byte_of bit) (0 ∷ 1 ∷ 2 ∷ 3 ∷ 4 ∷ 5 ∷ 6 ∷ 7 ∷ [])

-- the frame that is sent of these values, with this checksum
abbrev pub frame_sent : ℕ → List Placement → List ℕ → List ℕ
frame_sent checksum ps vs = frame_of (bit_sent checksum ps vs)

-- 503 is filled last, with the checksum of the frame, which does not look at 503's own bits: they are 0 till then
unfoldable pub packed_frame : Message → List ℕ → List ℕ
packed_frame m vs = frame_sent (checksum_of m.identifier (frame_sent 0 m.placements vs)) m.placements vs

-- values that are judged good are packed, others leave the frame as lent
abbrev pub packed_or : Result (Unit {0}) PackRefusal → List ℕ → List ℕ → List ℕ
packed_or (Ok done) packed lent = packed
packed_or (Err why) packed lent = lent

-- values packed by their message
unfoldable pub pack_by_message : Option Message → List ℕ → List ℕ → Result (Unit {0}) PackRefusal × List ℕ
pack_by_message none vs lent = (Err UnknownIdentifier, lent)
pack_by_message (some m) vs lent =
    cond (eqb (length vs) (length m.placements))
    (cond (eqb (length lent) frame_bytes)
    (judged_values m.placements vs, packed_or (judged_values m.placements vs) (packed_frame m vs) lent)
    (Err NotEightBytes, lent))
    (Err WrongCountOfValues, lent)

-- values packed by the words of a book
unfoldable pub packing : List ℕ → ℕ → List ℕ → List ℕ → Result (Unit {0}) PackRefusal × List ℕ
packing words identifier vs lent =
    cond (messages_taken_spec words)
    (pack_by_message (message_with identifier (messages_of words)) vs lent)
    (Err NotABook, lent)
