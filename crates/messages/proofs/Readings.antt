-- From the word back to the frame: what was read from the word is what the frame reads as. Assumes nothing.
use mathlib.Core.Path.{◌≡◌, refl, sym, ap, ◌∙◌}
use Rattle.std.specs.Prelude.{Result, Ok, Err}
use mathlib.Core.Bool.{true, false, ◌||◌, not}
use mathlib.Core.List.{List, ◌∷◌, ◌++◌, map}
use mathlib.Core.Option.{some}
use Prim.Native.Nat.{ℕ, ◌^◌, ◌≤◌, ◌<◌}
use native.Mathlib.Nat.{zero-add}
use native.Mathlib.Omega.{arith}
use lib.Dec.{eqb, lit≤}
use lib.ListN.{length, drop, length-map}
use lib.Seq.{sets, sets-eq}
use borrow.Author.Tests.{le-leb, lt-leb}
use Rattle.bits.specs.Word.{Fits, bytes_of, field_of}
use Rattle.bits.specs.Checksum.{checksum_of}
use Rattle.bits.proofs.Weights.{read_bytes}
use Rattle.books.specs.Book.{Placement, Message, numbers}
use Rattle.books.specs.Lines.{is_in}
use Rattle.books.specs.Words.{side_by_side}
use Rattle.books.proofs.Sides.{side_length, side_numbers}
use Rattle.catalogue.specs.Find.{bits_of_spec}
use Rattle.catalogue.specs.Class.{class_of_spec}
use Rattle.framing.specs.declared.ReadRefusal.{ReadRefusal}
use Rattle.framing.specs.declared.ReadRefusal.TheVariants.{WrongChecksum, TooLittleRoom}
use Rattle.framing.specs.Messages.{checksum_number, checksum_start, checksum_bits, count_of, placed_class, written}
use Rattle.framing.specs.Reading.{Slices, class_code, thousandths_of_spec, checksum_holds, room, readings, read_by_message}
use Rattle.messages.specs.Signals.{AllFit, raw_in, class_from, code_in, reading_in, check_holds, message_from, Readable}

map_fit : {A : Type 0} (f g : Placement → A) → ((p : Placement) → Fits p.start (bits_of_spec p.number) → f p ≡ g p) → {ps : List Placement} → AllFit ps → map f ps ≡ map g ps
map_fit f g h AllFit.none = refl
map_fit f g h (AllFit.more {p} {ps} a fits) = ap (λ (x : _). x ∷ map f ps) (h p a) ∙ ap (λ (l : List _). g p ∷ l) (map_fit f g h fits)

-- entries written from the front
sets_written : {A : Type 0} (lent vs : List A) → length vs ≤ length lent → sets lent 0 vs ≡ written vs lent
sets_written lent vs h = sets-eq vs lent 0 (omega arith) ∙ ap (λ (n : ℕ). vs ++ drop n lent) (zero-add (length vs))

-- what is read of the word is what is read of the frame: the count, and its class
count_same : (word : ℕ) → word < 2 ^ 64 → (p : Placement) → Fits p.start (bits_of_spec p.number) → raw_in word p ≡ count_of (bytes_of word) p
count_same word h p f = sym (read_bytes word p.start (bits_of_spec p.number) h f.inside)

pub class_same : (word : ℕ) → word < 2 ^ 64 → (p : Placement) → Fits p.start (bits_of_spec p.number) → class_from word p ≡ placed_class (bytes_of word) p
class_same word h p f = ap (λ (x : ℕ). class_of_spec p.number (record { 0 = x })) (count_same word h p f)

-- the check on the word is the check on the frame
pub check_same : (identifier word : ℕ) (ns ss : List ℕ) → word < 2 ^ 64 → length ss ≡ length ns → check_holds identifier word ns ≡ checksum_holds (message_from identifier ns ss) (bytes_of word)
unfolding check_holds checksum_holds
check_same identifier word ns ss hw same =
    ap (λ (l : List ℕ). not (is_in checksum_number l) || eqb (field_of word checksum_start checksum_bits) (checksum_of identifier (bytes_of word))) (sym (side_numbers ns ss same))
    ∙ ap (λ (n : ℕ). not (is_in checksum_number (numbers (side_by_side ns ss))) || eqb n (checksum_of identifier (bytes_of word))) (sym (read_bytes word checksum_start checksum_bits hw (lit≤ tt)))

module _ (identifier word : ℕ) (ns ss : List ℕ) (hw : word < 2 ^ 64) (r : Readable ns ss) where
  abbrev M : Message
  M = message_from identifier ns ss

  module _ (lent : Slices) where
    check : check_holds identifier word ns ≡ checksum_holds M (bytes_of word)
    check = check_same identifier word ns ss hw r.same

    wrote : {A : Type 0} (f g : Placement → A) (l : List A) → ((p : Placement) → Fits p.start (bits_of_spec p.number) → f p ≡ g p) → length ns ≤ length l
        → sets l 0 (map f (side_by_side ns ss)) ≡ written (map g (side_by_side ns ss)) l
    wrote f g l h n =
        ap (sets l 0) (map_fit f g h r.fit)
        ∙ sets_written l (map g (side_by_side ns ss)) (omega (arith, length-map (side_by_side ns ss) g, side_length ns ss r.same))

    pub refused_check : check_holds identifier word ns ≡ false → ◌≡◌ {A = Result ℕ ReadRefusal × Slices} (Err WrongChecksum, lent) (read_by_message (some M) (bytes_of word) lent)
    unfolding read_by_message
    refused_check e = rw (sym check ∙ e) refl

    pub refused_room : check_holds identifier word ns ≡ true → room lent < length ns → ◌≡◌ {A = Result ℕ ReadRefusal × Slices} (Err TooLittleRoom, lent) (read_by_message (some M) (bytes_of word) lent)
    unfolding read_by_message
    refused_room e h = rw (sym check ∙ e, side_length ns ss r.same, lt-leb (length ns) (room lent) h) refl

    pub was_read : check_holds identifier word ns ≡ true → length ns ≤ room lent → (count : ℕ) → count ≡ length ns → (out : Slices)
        → out.raws ≡ sets lent.raws 0 (map (raw_in word) (side_by_side ns ss))
        → out.classes ≡ sets lent.classes 0 (map (code_in word) (side_by_side ns ss))
        → out.thousandths ≡ sets lent.thousandths 0 (map (reading_in word) (side_by_side ns ss))
        → ◌≡◌ {A = Result ℕ ReadRefusal × Slices} (Ok count, out) (read_by_message (some M) (bytes_of word) lent)
    unfolding read_by_message
    was_read e h count many out a b c =
        let raws = a ∙ wrote (raw_in word) (count_of (bytes_of word)) lent.raws (count_same word hw) (omega arith) in
        let classes = b ∙ wrote (code_in word) (λ (p : Placement). class_code (placed_class (bytes_of word) p)) lent.classes (λ p f. ap class_code (class_same word hw p f)) (omega arith) in
        let thousandths = c ∙ wrote (reading_in word) (λ (p : Placement). thousandths_of_spec (placed_class (bytes_of word) p)) lent.thousandths (λ p f. ap thousandths_of_spec (class_same word hw p f)) (omega arith) in
        let done : out ≡ readings (bytes_of word) (side_by_side ns ss) lent = λ i. record { raws = raws i; classes = classes i; thousandths = thousandths i } in
        rw (sym check ∙ e, side_length ns ss r.same, le-leb (length ns) (room lent) h) (λ i. (Ok (many i), done i))
