-- What the code works with: a message's numbers and starts side by side, and a frame as its word. Assumes nothing: these are definitions.
use Rattle.std.specs.Prelude.{◌≡◌, Bool, cond, ◌||◌, not, List, [], ◌∷◌, map, ℕ, ◌≤◌, eqb, ℤ, length, Result}
use Rattle.std.proofs.lemmas.List.Edits.{sets}
use Rattle.record.specs.Limits.{signal_limit}
use Rattle.bits.specs.Word.{Fits, bytes_of, field_of}
use Rattle.bits.specs.Word as Word
use Rattle.bits.specs.Checksum.{checksum_of}
use Rattle.books.specs.Book.{Placement, Message}
use Rattle.books.specs.Lines.{is_in}
use Rattle.books.specs.Words.{side_by_side}
use Rattle.catalogue.specs.Find.{bits_of_spec}
use Rattle.catalogue.specs.Class.{class_of_spec}
use Rattle.catalogue.specs.declared.Raw.{Raw}
use Rattle.catalogue.specs.declared.Class.{Class}
use Rattle.catalogue.specs.declared.NoClass.{NoClass}
use Rattle.catalogue.specs.declared.Cut.{Cut}
use Rattle.framing.specs.Lending.{Lent}
use Rattle.framing.specs.Messages.{checksum_number, checksum_start, checksum_bits}
use Rattle.framing.specs.Reading.{class_code, thousandths_of_spec}

-- each placement lies within the frame
pub data AllFit : List Placement → Type 0 where
  none : AllFit []
  more : {p : Placement} {ps : List Placement} → Fits p.start (bits_of_spec p.number) → AllFit ps → AllFit (p ∷ ps)

-- numbers and starts of placements that lie within the frame, no more than a book may have, and three slices that have room for their readings
pub record InStep (ns ss : List ℕ) (raws classes thousandths : ℕ) : Type 0 where
  pub few : length ns ≤ signal_limit
  pub same : length ss ≡ length ns
  pub fit : AllFit (side_by_side ns ss)
  pub raw_room : length ns ≤ raws
  pub class_room : length ns ≤ classes
  pub thousandth_room : length ns ≤ thousandths

-- what was cut for a signal, in numbers: its thousandths, its bits, its count and the code of its class
abbrev pub numbers_of_cut : Cut → ℤ × (ℕ × (ℕ × ℕ))
numbers_of_cut cut = (thousandths_of_spec cut.class, (cut.bits, (cut.raw.0, class_code cut.class)))

-- the thousandths of a raw count of the signal with a number, and the code of its class
abbrev pub numbers_of_class : ℕ → Raw → ℤ × ℕ
numbers_of_class number raw = (thousandths_of_spec (class_of_spec number raw), class_code (class_of_spec number raw))

-- the raw count of a placement in a frame's word, its class code and its thousandths
abbrev pub raw_in : ℕ → Placement → ℕ
raw_in word p = field_of word p.start (bits_of_spec p.number)

abbrev pub class_from : ℕ → Placement → Result Class NoClass
class_from word p = class_of_spec p.number (record { 0 = raw_in word p })

abbrev pub code_in : ℕ → Placement → ℕ
code_in word p = class_code (class_from word p)

abbrev pub reading_in : ℕ → Placement → ℤ
reading_in word p = thousandths_of_spec (class_from word p)

-- the readings of these placements stand at the front of the three slices; entries beyond them stay as lent
abbrev pub SignalsRead : ℕ → List Placement → Lent ℕ → Lent ℕ → Lent ℤ → Type 0
SignalsRead word ps raws classes thousandths =
    (raws.exit.now ≡ sets raws.entry.now 0 (map (raw_in word) ps)) ×
    (classes.exit.now ≡ sets classes.entry.now 0 (map (code_in word) ps)) ×
    (thousandths.exit.now ≡ sets thousandths.entry.now 0 (map (reading_in word) ps))

-- the frame has the checksum where the message places it
unfoldable pub check_holds : ℕ → ℕ → List ℕ → Bool
check_holds identifier word ns =
    not (is_in checksum_number ns) ||
    eqb (field_of word checksum_start checksum_bits) (checksum_of identifier (bytes_of word))

-- the message of an identifier with its numbers and starts
abbrev pub message_from : ℕ → List ℕ → List ℕ → Message
message_from identifier ns ss = record { identifier = identifier; placements = side_by_side ns ss }

-- numbers and starts of placements that lie within a frame, no more than a book may have
pub record Readable (ns ss : List ℕ) : Type 0 where
  pub few : length ns ≤ signal_limit
  pub same : length ss ≡ length ns
  pub fit : AllFit (side_by_side ns ss)

-- the word with the checksum where the message places it
unfoldable pub summed_word : ℕ → ℕ → List ℕ → ℕ
summed_word identifier word ns =
    cond (is_in checksum_number ns)
    (Word.placed word checksum_start checksum_bits (checksum_of identifier (bytes_of word)))
    word
