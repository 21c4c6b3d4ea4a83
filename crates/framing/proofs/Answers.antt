-- What stands behind an answer: the tests that led to it, and the other way round. Assumes nothing.
use mathlib.Core.Path.{◌≡◌, refl}
use Rattle.std.specs.Prelude.{Result, Ok, Err}
use mathlib.Core.Bool.{Bool, true, false, cond}
use mathlib.Core.List.{List}
use mathlib.Core.Option.{Option, none, some}
use Prim.Native.Nat.{ℕ, suc, ◌≤◌}
use native.Mathlib.Omega.{arith}
use lib.Dec.{eqb, leb}
use lib.ListN.{length}
use borrow.Author.Tests.{eqb-true, eq-eqb, leb-true, le-leb}
use Rattle.books.specs.Book.{Message}
use Rattle.books.specs.Words.{messages_of, messages_taken_spec}
use Rattle.framing.specs.declared.ReadRefusal.TheVariants.{NotABook, NotEightBytes, WrongChecksum, TooLittleRoom}
use Rattle.framing.specs.declared.PackRefusal.{PackRefusal}
use Rattle.framing.specs.declared.PackRefusal.TheVariants as Pack
use Rattle.bits.specs.Frame.{frame_bytes}
use Rattle.framing.specs.Messages.{message_with}
use Rattle.framing.specs.Reading.{Slices, checksum_holds, room, readings, read_by_message, read_by_messages, reading, reading_number}
use Rattle.framing.specs.Packing.{judged_values, packed_frame, pack_by_message, packing, packing_number}

-- a test before a refusal: where the answer is no refusal, the test held
passes : {A X : Type 0} (number : A → ℕ) (n : ℕ) (held : Bool) (other : A × X) (refused : A) (lent : X) → number refused ≡ suc n
    → number (cond {A = A × X} held other (refused, lent)).0 ≡ 0 → (held ≡ true) × (number other.0 ≡ 0)
passes number n true other refused lent h e = (refl, e)
passes number n false other refused lent h e = absurd (omega arith)

-- ---- reading

pub record WasRead (words : List ℕ) (identifier : ℕ) (frame : List ℕ) (lent : Slices) (m : Message) : Type 0 where
  pub taken : messages_taken_spec words ≡ true
  pub eight : length frame ≡ frame_bytes
  pub found : message_with identifier (messages_of words) ≡ some m
  pub checked : checksum_holds m frame ≡ true
  pub roomy : length m.placements ≤ room lent

-- what has passed every test is read
pub was_read : (words : List ℕ) (identifier : ℕ) (frame : List ℕ) (lent : Slices) (m : Message) → WasRead words identifier frame lent m
    → reading words identifier frame lent ≡ (Ok (length m.placements), readings frame m.placements lent)
unfolding reading read_by_messages read_by_message
was_read words identifier frame lent m h =
    rw (h.taken, eq-eqb (length frame) frame_bytes h.eight, h.found, h.checked, le-leb (length m.placements) (room lent) h.roomy) refl

-- and what is not refused has passed every test
by_message : (o : Option Message) (frame : List ℕ) (lent : Slices) → reading_number (read_by_message o frame lent).0 ≡ 0
    → (m : Message) × (o ≡ some m) × (checksum_holds m frame ≡ true) × (length m.placements ≤ room lent)
unfolding read_by_message
by_message none frame lent e = absurd (omega arith)
by_message (some m) frame lent e =
    let c = passes reading_number 22 (checksum_holds m frame) _ (Err WrongChecksum) lent refl e in
    let r = passes reading_number 23 (leb (length m.placements) (room lent)) _ (Err TooLittleRoom) lent refl c.1 in
    (m, refl, c.0, leb-true (length m.placements) (room lent) r.0)

pub read_was : (words : List ℕ) (identifier : ℕ) (frame : List ℕ) (lent : Slices) → reading_number (reading words identifier frame lent).0 ≡ 0
    → (m : Message) × WasRead words identifier frame lent m
unfolding reading read_by_messages
read_was words identifier frame lent e =
    let a = passes reading_number 11 (messages_taken_spec words) _ (Err NotABook) lent refl e in
    let b = passes reading_number 20 (eqb (length frame) frame_bytes) _ (Err NotEightBytes) lent refl a.1 in
    let c = by_message (message_with identifier (messages_of words)) frame lent b.1 in
    (c.0, record { taken = a.0; eight = eqb-true (length frame) frame_bytes b.0; found = c.1; checked = c.2; roomy = c.3 })

-- ---- packing

pub record WasPacked (words : List ℕ) (identifier : ℕ) (vs lent : List ℕ) (m : Message) : Type 0 where
  pub taken : messages_taken_spec words ≡ true
  pub found : message_with identifier (messages_of words) ≡ some m
  pub many : length vs ≡ length m.placements
  pub eight : length lent ≡ frame_bytes
  pub good : judged_values m.placements vs ≡ Ok tt

pub was_packed : (words : List ℕ) (identifier : ℕ) (vs lent : List ℕ) (m : Message) → WasPacked words identifier vs lent m
    → packing words identifier vs lent ≡ (Ok tt, packed_frame m vs)
unfolding packing pack_by_message
was_packed words identifier vs lent m h =
    rw (h.taken, h.found, eq-eqb (length vs) (length m.placements) h.many, eq-eqb (length lent) frame_bytes h.eight, h.good) refl

-- and what is not refused has passed every test
no_refusal : (r : Result (Unit {0}) PackRefusal) → packing_number r ≡ 0 → r ≡ Ok tt
no_refusal (Ok _) e = refl
no_refusal (Err Pack.NotABook) e = absurd (omega arith)
no_refusal (Err Pack.UnknownIdentifier) e = absurd (omega arith)
no_refusal (Err Pack.WrongCountOfValues) e = absurd (omega arith)
no_refusal (Err Pack.NotEightBytes) e = absurd (omega arith)
no_refusal (Err Pack.TooWide) e = absurd (omega arith)
no_refusal (Err Pack.ReservedOrOutside) e = absurd (omega arith)

by_values : (o : Option Message) (vs lent : List ℕ) → packing_number (pack_by_message o vs lent).0 ≡ 0
    → (m : Message) × (o ≡ some m) × (length vs ≡ length m.placements) × (length lent ≡ frame_bytes) × (judged_values m.placements vs ≡ Ok tt)
unfolding pack_by_message
by_values none vs lent e = absurd (omega arith)
by_values (some m) vs lent e =
    let c = passes packing_number 24 (eqb (length vs) (length m.placements)) _ (Err Pack.WrongCountOfValues) lent refl e in
    let f = passes packing_number 20 (eqb (length lent) frame_bytes) _ (Err Pack.NotEightBytes) lent refl c.1 in
    (m, refl, eqb-true (length vs) (length m.placements) c.0, eqb-true (length lent) frame_bytes f.0, no_refusal (judged_values m.placements vs) f.1)

pub packed_was : (words : List ℕ) (identifier : ℕ) (vs lent : List ℕ) → packing_number (packing words identifier vs lent).0 ≡ 0
    → (m : Message) × WasPacked words identifier vs lent m
unfolding packing
packed_was words identifier vs lent e =
    let a = passes packing_number 11 (messages_taken_spec words) _ (Err Pack.NotABook) lent refl e in
    let c = by_values (message_with identifier (messages_of words)) vs lent a.1 in
    (c.0, record { taken = a.0; found = c.1; many = c.2; eight = c.3; good = c.4 })
