-- A message of the book, and where its signals stand in a frame. Assumes nothing: these are definitions.
use Rattle.std.specs.Prelude.{Bool, cond, List, [], ◌∷◌, ◌++◌, ℕ, eqb, length, drop, Result}
use Rattle.std.proofs.Math.Option.{Option, none, some}
use Rattle.books.specs.Book.{Placement, Message, numbers}
pub use Rattle.books.specs.Fixed.{checksum_number, checksum_start}
use Rattle.books.specs.Lines.{is_in}
use Rattle.bits.specs.Frame.{count_at}
use Rattle.catalogue.specs.Find.{bits_of_spec}
use Rattle.catalogue.specs.Class.{class_of_spec}
use Rattle.catalogue.specs.declared.Class.{Class}
use Rattle.catalogue.specs.declared.NoClass.{NoClass}

-- the checksum, signal 503, has 4 bits
abbrev pub checksum_bits : ℕ
checksum_bits = 4

-- the message with the identifier, if there is one
unfoldable pub message_with : ℕ → List Message → Option Message
message_with identifier [] = none
message_with identifier (m ∷ ms) = cond (eqb identifier m.identifier) (some m) (message_with identifier ms)

-- the message places 503
abbrev pub places_checksum : List Placement → Bool
places_checksum ps = is_in checksum_number (numbers ps)

-- the raw count of a placed signal in a frame, and its class
abbrev pub count_of : List ℕ → Placement → ℕ
count_of frame p = count_at frame p.start (bits_of_spec p.number)

abbrev pub placed_class : List ℕ → Placement → Result Class NoClass
placed_class frame p = class_of_spec p.number (record { 0 = count_of frame p })

-- entries written into a lent slice from the front; those beyond them stay as lent
abbrev pub written {ℓ} : {A : Type ℓ} → List A → List A → List A
written entries lent = entries ++ drop (length entries) lent
