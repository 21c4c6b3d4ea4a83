-- Stand-ins that demand 2 and the refusal table throw out: a packer that writes nothing, and a reader that refuses all. The witness is
-- the book of one message that places 204 at start 0. Assumes nothing.
use mathlib.Core.Path.{◌≡◌, refl, sym, ap, ◌∙◌, subst}
use mathlib.Core.Bool.{true}
use mathlib.Core.List.{List, [], ◌∷◌}
use mathlib.Core.Option.{some}
use Prim.Native.Nat.{ℕ}
use native.Mathlib.Omega.{arith}
use lib.ListN.{get_or, replicate}
use lib.IntN.{pos}
use Rattle.rows.specs.Rows.{rows}
use Rattle.catalogue.specs.Find.{row_of, bits_of_spec}
use Rattle.catalogue.specs.Class.{class_of_spec, between}
use Rattle.books.specs.Book.{Message, Book, all_placements}
use Rattle.books.specs.Lines.{is_in, unknown_or_over, misplaced, meets_earlier}
use Rattle.books.specs.Good.{good_after, good_from, good}
use Rattle.books.specs.Words.{Stands, messages_of, messages_taken_spec, words_of}
use Rattle.books.proofs.Columns.{within, shows, stands_taken, words_stand}
use Rattle.bits.specs.Frame.{frame_bytes, count_at}
use Rattle.std.specs.Prelude.{Result, Ok}
use Rattle.framing.specs.declared.ReadRefusal.{ReadRefusal}
use Rattle.framing.specs.declared.PackRefusal.{PackRefusal}
use Rattle.framing.specs.Messages.{message_with, checksum_number}
use Rattle.framing.specs.Reading.{Slices, checksum_holds, reading, readings, reading_number}
use Rattle.framing.specs.Packing.{judged_values, packing, packing_number}
use Rattle.framing.specs.Demand.{placement_at, ReadsBack}
use Rattle.framing.proofs.Answers.{was_read, was_packed}

abbrev message : Message
message = record { identifier = 0; placements = record { number = 204; start = 0 } ∷ [] }

abbrev book : Book
book = record { messages = message ∷ []; routes = [] }

abbrev words : List ℕ
words = words_of book

is_good : good book.messages ≡ true
unfolding good good_from good_after is_in unknown_or_over misplaced meets_earlier all_placements bits_of_spec row_of rows
is_good = refl

stand : Stands words book.messages
stand = words_stand book (within book.messages is_good).few (within book.messages is_good).room

taken : messages_taken_spec words ≡ true
taken = stands_taken words book.messages stand is_good

found : message_with 0 (messages_of words) ≡ some message
unfolding message_with
found =
    ap (message_with 0) (shows words book.messages (within book.messages is_good).few (within book.messages is_good).room stand)

-- a frame of zeros, and slices with room for one reading
abbrev zeros : List ℕ
zeros = replicate frame_bytes 0

abbrev slices : Slices
slices = record { raws = 0 ∷ []; classes = 0 ∷ []; thousandths = pos 0 ∷ [] }

reads : reading words 0 zeros slices ≡ (Ok 1, readings zeros message.placements slices)
unfolding checksum_holds is_in
reads = was_read words 0 zeros slices message (record { taken = taken; eight = refl; found = found; checked = refl; roomy = omega arith })

packs : packing_number (packing words 0 (250 ∷ []) zeros).0 ≡ 0
unfolding judged_values class_of_spec bits_of_spec row_of rows between
packs =
    ap (λ (x : Result (Unit {0}) PackRefusal × List ℕ). packing_number x.0)
    (was_packed words 0 (250 ∷ []) zeros message (record { taken = taken; found = found; many = refl; eight = refl; good = refl }))

-- a packer that refuses what ours refuses, and otherwise leaves the frame as lent: not all that it accepts reads back
pub writes_nothing : ((words : List ℕ) (identifier : ℕ) (vs lent : List ℕ) → packing_number (packing words identifier vs lent).0 ≡ 0 → ReadsBack words identifier vs lent) → ⊥
unfolding count_at bits_of_spec row_of rows
writes_nothing back =
    let r = back words 0 (250 ∷ []) zeros packs in
    let one : some message ≡ some r.message = sym found ∙ r.found in
    let same : message ≡ r.message = (cc) in
    let counted : (placement_at r.message 0).number ≡ checksum_number → ⊥ =
    subst (λ (m : Message). (placement_at m 0).number ≡ checksum_number → ⊥) same (λ (e : 204 ≡ checksum_number). omega arith) in
    let given = (r.reads slices (omega arith)).counts 0 (omega arith) counted in
    let nothing : ◌≡◌ {A = ℕ} 0 250 = sym (ap (λ (x : Result ℕ ReadRefusal × Slices). get_or x.1.raws 0 0) reads) ∙ given in
    omega arith

-- a reader that refuses all does not read as it should
pub refuses_all : (reader : List ℕ → ℕ → List ℕ → Slices → Result ℕ ReadRefusal × Slices)
    → ((words : List ℕ) (identifier : ℕ) (frame : List ℕ) (lent : Slices) → reading_number (reader words identifier frame lent).0 ≡ 0 → ⊥)
    → ((words : List ℕ) (identifier : ℕ) (frame : List ℕ) (lent : Slices) → reader words identifier frame lent ≡ reading words identifier frame lent) → ⊥
refuses_all reader refuses same = refuses words 0 zeros slices (ap (λ (x : Result ℕ ReadRefusal × Slices). reading_number x.0) (same words 0 zeros slices ∙ reads))
