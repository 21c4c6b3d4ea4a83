-- 12, in one sentence for each call: it is answered exactly where no taken text has the tables that the call uses. Assumes nothing.
use mathlib.Core.Path.{◌≡◌, refl, sym, ◌∙◌}
use mathlib.Core.Bool.{Bool, true, false, cond}
use mathlib.Core.Logic.{◌↔◌}
use mathlib.Core.List.{List, [], ◌∷◌}
use mathlib.Core.Option.{Option, none, some}
use Prim.Native.Nat.{ℕ, ◌^◌}
use native.Mathlib.Omega.{arith}
use lib.Dec.{eqb, leb}
use lib.ListN.{length}
use Rattle.record.specs.Columns.{IsRecord}
use Rattle.bits.specs.Frame.{frame_bytes}
use Rattle.catalogue.specs.Find.{bits_of_spec}
use Rattle.catalogue.specs.Class.{class_of_spec}
use Rattle.books.specs.Book.{Message, Placement}
use Rattle.books.specs.Words.{messages_of, messages_taken_spec, routes_of}
use Rattle.std.specs.Prelude.{Result, Ok, Err}
use Rattle.framing.specs.declared.ReadRefusal.{ReadRefusal}
use Rattle.framing.specs.declared.ReadRefusal.TheVariants as reading
use Rattle.framing.specs.declared.PackRefusal.{PackRefusal}
use Rattle.framing.specs.declared.PackRefusal.TheVariants as packing
use Rattle.framing.specs.Messages.{message_with, checksum_number}
use Rattle.framing.specs.Reading.{Slices, reading_number, checksum_holds, room, readings, read_by_message, read_by_messages}
use Rattle.framing.specs.Reading as Read
use Rattle.framing.specs.Packing.{packing_number, packable, judged_values, packed_or, packed_frame, pack_by_message}
use Rattle.framing.specs.Packing as Pack
use Rattle.signal_lines.specs.declared.figures.Figures.{Figures}
use Rattle.listing.specs.Listing.{listed_number, listing}
use Rattle.listing.proofs.AsRead.{refused_12}
use Rattle.reading.specs.Taken.{MessagesFrom, RoutesFrom}
use Rattle.reading.proofs.Exact.{from_messages, messages_from}
use Rattle.route_tables.proofs.FromTexts.{routes_from_text, text_to_routes}
use Rattle.route_tables.specs.Tables.{OfTakenText}
use Rattle.route_tables.proofs.OneText.{of_taken_text}
use Rattle.routes.specs.Answers.{SpreadBy, no_place, no_room, spreads, SpreadAnswer, not_a_book, by_routes}
use Rattle.book_writer.specs.Answers.{WriteBy, WriteAnswer}
use Rattle.book_writer.specs.Answers as writer
use Rattle.demands.proofs.Taken.{left_tables}

-- a number that is 12 exactly where the message and signal tables are those of no taken book
module _ (w : List ℕ) (other : ℕ) (not-12 : other ≡ 12 → ⊥) where
  by_test : (n : ℕ) → n ≡ cond (messages_taken_spec w) other 12 → (n ≡ 12) ↔ (MessagesFrom w → ⊥)
  by_test n e = go (messages_taken_spec w) refl e
    where
      go : (b : Bool) → messages_taken_spec w ≡ b → n ≡ cond b other 12 → (n ≡ 12) ↔ (MessagesFrom w → ⊥)
      go true t f = (λ x. absurd (not-12 (sym f ∙ x)), λ none. absurd (none (from_messages w t)))
      go false t f = (λ x m. absurd (let z : ◌≡◌ {A = Bool} true false = sym (messages_from w m) ∙ t in let y : ◌≡◌ {A = ℕ} 0 1 = cc in omega arith), λ none. f)

-- reading
read_not_12 : (ms : List Message) (identifier : ℕ) (frame : List ℕ) (lent : Slices) → reading_number (read_by_messages ms identifier frame lent).0 ≡ 12 → ⊥
unfolding read_by_messages read_by_message
read_not_12 ms identifier frame lent = long (eqb (length frame) frame_bytes) (message_with identifier ms)
  where
    fits : (m : Message) (b c : Bool)
        → reading_number (cond {A = Result ℕ ReadRefusal × Slices} b (cond {A = Result ℕ ReadRefusal × Slices} c (Ok (length m.placements), readings frame m.placements lent) (Err reading.TooLittleRoom, lent)) (Err reading.WrongChecksum, lent)).0 ≡ 12 → ⊥
    fits m true true e = omega arith
    fits m true false e = omega arith
    fits m false c e = omega arith

    long : (b : Bool) (o : Option Message) → reading_number (cond {A = Result ℕ ReadRefusal × Slices} b (read_by_message o frame lent) (Err reading.NotEightBytes, lent)).0 ≡ 12 → ⊥
    long true none e = omega arith
    long true (some m) e = fits m (checksum_holds m frame) (leb (length m.placements) (room lent)) e
    long false o e = omega arith

pub read_12 : (w : List ℕ) (identifier : ℕ) (frame : List ℕ) (lent : Slices) → (reading_number (Read.reading w identifier frame lent).0 ≡ 12) ↔ (MessagesFrom w → ⊥)
unfolding Read.reading
read_12 w identifier frame lent =
    by_test w (reading_number (read_by_messages (messages_of w) identifier frame lent).0) (read_not_12 (messages_of w) identifier frame lent) _ (go (messages_taken_spec w))
  where
    go : (b : Bool) → reading_number (cond {A = Result ℕ ReadRefusal × Slices} b (read_by_messages (messages_of w) identifier frame lent) (Err reading.NotABook, lent)).0
        ≡ cond b (reading_number (read_by_messages (messages_of w) identifier frame lent).0) 12
    go true = refl
    go false = refl

-- packing
judged_not_12 : (ps : List Placement) (vs : List ℕ) → packing_number (judged_values ps vs) ≡ 12 → ⊥
unfolding judged_values
judged_not_12 [] vs e = omega arith
judged_not_12 (p ∷ ps) [] e = omega arith
judged_not_12 (p ∷ ps) (v ∷ vs) e =
    go (eqb p.number checksum_number) (leb (2 ^ bits_of_spec p.number) v) (packable (class_of_spec p.number (record { 0 = v }))) e (judged_not_12 ps vs)
  where
    go : (a b c : Bool) → packing_number (cond a (judged_values ps vs) (cond b (Err packing.TooWide) (cond c (judged_values ps vs) (Err packing.ReservedOrOutside)))) ≡ 12 → (packing_number (judged_values ps vs) ≡ 12 → ⊥) → ⊥
    go true b c e h = h e
    go false true c e h = omega arith
    go false false true e h = h e
    go false false false e h = omega arith

pack_not_12 : (o : Option Message) (vs lent : List ℕ) → packing_number (pack_by_message o vs lent).0 ≡ 12 → ⊥
unfolding pack_by_message
pack_not_12 none vs lent e = omega arith
pack_not_12 (some m) vs lent e = go (eqb (length vs) (length m.placements)) (eqb (length lent) frame_bytes) e
  where
    go : (a b : Bool)
        → packing_number (cond {A = Result (Unit {0}) PackRefusal × List ℕ} a (cond {A = Result (Unit {0}) PackRefusal × List ℕ} b (judged_values m.placements vs, packed_or (judged_values m.placements vs) (packed_frame m vs) lent) (Err packing.NotEightBytes, lent)) (Err packing.WrongCountOfValues, lent)).0 ≡ 12 → ⊥
    go true true e = judged_not_12 m.placements vs e
    go true false e = omega arith
    go false b e = omega arith

pub pack_12 : (w : List ℕ) (identifier : ℕ) (vs lent : List ℕ) → (packing_number (Pack.packing w identifier vs lent).0 ≡ 12) ↔ (MessagesFrom w → ⊥)
unfolding Pack.packing
pack_12 w identifier vs lent =
    by_test w (packing_number (pack_by_message (message_with identifier (messages_of w)) vs lent).0) (pack_not_12 (message_with identifier (messages_of w)) vs lent) _ (go (messages_taken_spec w))
  where
    go : (b : Bool) → packing_number (cond {A = Result (Unit {0}) PackRefusal × List ℕ} b (pack_by_message (message_with identifier (messages_of w)) vs lent) (Err packing.NotABook, lent)).0
        ≡ cond b (packing_number (pack_by_message (message_with identifier (messages_of w)) vs lent).0) 12
    go true = refl
    go false = refl

-- listing
pub list_12 : (figures : Figures) (w text lent : List ℕ) → (listed_number (listing figures w text lent).0 ≡ 12) ↔ (MessagesFrom w → ⊥)
list_12 figures w text lent = by_test w 0 (λ e. omega arith) _ (refused_12 figures w text lent)

-- the spread, whose tables are the routes
module _ (w : List ℕ) (r : IsRecord w) (bus identifier : ℕ) (room-lent : List ℕ) where
  told_12 : {why n : ℕ} {after : List ℕ} → SpreadAnswer w bus identifier room-lent why n after → why ≡ 12 → RoutesFrom w → ⊥
  told_12 (not_a_book x) e f = x (text_to_routes w f)
  told_12 (by_routes t b) e f = no_12 b e
    where
      no_12 : {why n : ℕ} {after : List ℕ} → SpreadBy (routes_of w) bus identifier room-lent why n after → why ≡ 12 → ⊥
      no_12 (no_place x) e = omega arith
      no_12 (no_room x l) e = omega arith
      no_12 (spreads x l) e = omega arith

  is_12 : {why n : ℕ} {after : List ℕ} → SpreadAnswer w bus identifier room-lent why n after → (RoutesFrom w → ⊥) → why ≡ 12
  is_12 (not_a_book x) without = refl
  is_12 (by_routes t b) without = absurd (without (routes_from_text w r t))

  pub spread_12 : {why n : ℕ} {after : List ℕ} → SpreadAnswer w bus identifier room-lent why n after → (why ≡ 12) ↔ (RoutesFrom w → ⊥)
  spread_12 a = (told_12 a, is_12 a)

-- the writer, which uses all tables
module _ (w : List ℕ) (room-lent : List ℕ) where
  writer_told : {why n : ℕ} {after : List ℕ} → WriteAnswer w room-lent why n after → why ≡ 12 → OfTakenText w → ⊥
  writer_told (writer.not_a_book x) e t = x (left_tables t.text w t.left)
  writer_told (writer.by_tables u b) e t = no_12 b e
    where
      no_12 : {why n : ℕ} {after : List ℕ} → WriteBy w room-lent why n after → why ≡ 12 → ⊥
      no_12 (writer.no_room l) e = omega arith
      no_12 (writer.writes l) e = omega arith

  writer_12 : {why n : ℕ} {after : List ℕ} → IsRecord w → WriteAnswer w room-lent why n after → (OfTakenText w → ⊥) → why ≡ 12
  writer_12 r (writer.not_a_book x) without = refl
  writer_12 r (writer.by_tables t b) without = absurd (without (of_taken_text w r t.messages t.routes))

  pub write_12 : {why n : ℕ} {after : List ℕ} → IsRecord w → WriteAnswer w room-lent why n after → (why ≡ 12) ↔ (OfTakenText w → ⊥)
  write_12 r a = (writer_told a, writer_12 r a)
