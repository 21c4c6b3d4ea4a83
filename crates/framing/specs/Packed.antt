-- What holds of a packed frame and of no other (proofs/FrameSent.antt, proofs/PackedOnce.antt): its counts, its checksum, its other bits.
-- Assumes nothing: these are definitions.
use Rattle.std.specs.Prelude.{◌≡◌, ◌⊎◌, List, [], ◌∷◌, ℕ, ◌+◌, ◌≤◌, ◌<◌, length, get_or}
use Rattle.books.specs.Book.{Placement, Message}
use Rattle.bits.specs.Frame.{frame_bytes, frame_bits, frame_bit}
use Rattle.bits.specs.Checksum.{checksum_of}
use Rattle.catalogue.specs.Find.{bits_of_spec}
use Rattle.framing.specs.Messages.{checksum_number, count_of}

-- each placement but that of 503 has its value in the frame
unfoldable pub CarriesValues : List ℕ → List Placement → List ℕ → Type 0
CarriesValues frame [] vs = Unit
CarriesValues frame (p ∷ ps) [] = Unit
CarriesValues frame (p ∷ ps) (v ∷ vs) = ((p.number ≡ checksum_number → ⊥) → count_of frame p ≡ v) × CarriesValues frame ps vs

-- each placement of 503 has this count in the frame
unfoldable pub HasChecksum : List ℕ → ℕ → List Placement → Type 0
HasChecksum frame sum [] = Unit
HasChecksum frame sum (p ∷ ps) = (p.number ≡ checksum_number → count_of frame p ≡ sum) × HasChecksum frame sum ps

-- frame bit k belongs to no placement
unfoldable pub Unplaced : ℕ → List Placement → Type 0
Unplaced k [] = Unit
Unplaced k (p ∷ ps) = ((k < p.start) ⊎ (p.start + bits_of_spec p.number ≤ k)) × Unplaced k ps

-- every frame bit that belongs to no placement is 1
abbrev pub OnesElsewhere : Message → List ℕ → Type 0
OnesElsewhere m frame = (k : ℕ) → k < frame_bits → Unplaced k m.placements → frame_bit frame k ≡ 1

-- a frame that carries the values of a message
pub record IsPacked (m : Message) (vs : List ℕ) (frame : List ℕ) : Type 0 where
  pub bytes : length frame ≡ frame_bytes
  pub small : (k : ℕ) → get_or frame k 0 < 256
  pub counts : CarriesValues frame m.placements vs
  pub checksum : HasChecksum frame (checksum_of m.identifier frame) m.placements
  pub ones : OnesElsewhere m frame
