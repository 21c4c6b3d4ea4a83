-- Demand 2: what is packed is the one frame that carries the values, it reads back, and what is read can be packed again. The theorems
-- are in proofs/PackedBy.antt, proofs/ReadBack.antt and proofs/PackAgain.antt. Assumes nothing: these are definitions.
use Rattle.std.specs.Prelude.{◌≡◌, List, ℕ, ◌+◌, ◌≤◌, ◌<◌, length, get_or, take, Result, Ok}
use Rattle.std.proofs.Math.Option.{some}
use Rattle.books.specs.Book.{Placement, Message}
use Rattle.books.specs.Words.{messages_of}
use Rattle.bits.specs.Frame.{frame_bytes, frame_bit}
use Rattle.bits.specs.Checksum.{checksum_of}
use Rattle.catalogue.specs.Find.{bits_of_spec}
use Rattle.catalogue.specs.declared.Raw.{Raw}
use Rattle.catalogue.specs.declared.Class.TheVariants.{Reserved, Outside}
use Rattle.framing.specs.declared.ReadRefusal.{ReadRefusal}
use Rattle.framing.specs.Messages.{checksum_number, message_with}
use Rattle.framing.specs.Reading.{Slices, class_code, room, reading}
use Rattle.framing.specs.Packing.{packing}
use Rattle.framing.specs.Packed.{HasChecksum, OnesElsewhere, IsPacked}

-- a frame is packed of these values: it carries them as the message with the identifier asks, and no other frame does
pub record PackedBy (words : List ℕ) (identifier : ℕ) (vs frame : List ℕ) : Type 0 where
  pub message : Message
  pub found : message_with identifier (messages_of words) ≡ some message
  pub packed : IsPacked message vs frame
  pub only : (other : List ℕ) → IsPacked message vs other → other ≡ frame

-- the i-th placement of a message
abbrev pub placement_at : Message → ℕ → Placement
placement_at m i = get_or m.placements i (record { number = 0; start = 0 })

-- it is not 503
abbrev pub Counted : Message → ℕ → Type 0
Counted m i = (placement_at m i).number ≡ checksum_number → ⊥

-- reading gave as many readings as there are values, and the values again, apart from 503
pub record SameCounts (m : Message) (vs : List ℕ) (out : Result ℕ ReadRefusal × Slices) : Type 0 where
  pub answer : out.0 ≡ Ok (length vs)
  pub counts : (i : ℕ) → i < length vs → Counted m i → get_or out.1.raws i 0 ≡ get_or vs i 0

-- a frame reads back as these values: it reads under the identifier, with no refusal, into any slices that have room
pub record ReadsBack (words : List ℕ) (identifier : ℕ) (vs frame : List ℕ) : Type 0 where
  pub message : Message
  pub found : message_with identifier (messages_of words) ≡ some message
  pub reads : (lent : Slices) → length vs ≤ room lent → SameCounts message vs (reading words identifier frame lent)

-- any raw count: the code of a class doesn't depend on it
abbrev some_raw : Raw
some_raw = record { 0 = 0 }

-- the codes of the two classes that are not packed
abbrev pub reserved_code : ℕ
reserved_code = class_code (Ok (Reserved some_raw))

abbrev pub outside_code : ℕ
outside_code = class_code (Ok (Outside some_raw))

-- no count that was read is reserved or outside
abbrev pub NoneBarred : ℕ → Slices → Type 0
NoneBarred n out = (i : ℕ) → i < n → (get_or out.classes i 0 ≡ reserved_code → ⊥) × (get_or out.classes i 0 ≡ outside_code → ⊥)

-- a frame packed anew keeps every placed bit of the old one apart from 503's, which hold its own checksum, and has 1 in every other
pub record Renewed (m : Message) (old new : List ℕ) : Type 0 where
  pub kept : (i : ℕ) → i < length m.placements → Counted m i → (j : ℕ) → j < bits_of_spec (placement_at m i).number
      → frame_bit new ((placement_at m i).start + j) ≡ frame_bit old ((placement_at m i).start + j)
  pub checksum : HasChecksum new (checksum_of m.identifier new) m.placements
  pub ones : OnesElsewhere m new

-- a frame packs again from n counts that were read of it, into any lent frame of 8 bytes
pub record PacksAgain (words : List ℕ) (identifier : ℕ) (frame : List ℕ) (n : ℕ) (raws : List ℕ) : Type 0 where
  pub message : Message
  pub found : message_with identifier (messages_of words) ≡ some message
  pub packs : (lent : List ℕ) → length lent ≡ frame_bytes
      → ((packing words identifier (take n raws) lent).0 ≡ Ok tt) × Renewed message frame (packing words identifier (take n raws) lent).1
