-- Demand 2, second half: a frame that reads with no count reserved or outside can be packed again from what was read; the
-- result keeps every placed bit apart from the checksum, which is its own, and has 1 in every other. So a frame that had 1 in every
-- other bit is packed again to itself. Assumes nothing.
use mathlib.Core.Path.{◌≡◌, refl, sym, ap, ◌∙◌, subst⁻¹}
use mathlib.Core.Bool.{Bool, true, false, ◌||◌, not}
use mathlib.Core.List.{List, [], ◌∷◌, map}
use mathlib.Core.Option.{some}
use Prim.Native.Nat.{ℕ, zero, suc, ◌+◌, ◌/◌, ◌%◌, ◌^◌, ◌<◌}
use native.Mathlib.Nat.{not-suc-le-zero, le_of_suc-le-suc}
use native.Mathlib.Omega.{arith}
use lib.Dec.{eqb}
use lib.ListN.{length, get_or, take, drop, length-map, get_or-append}
use lib.Seq.{take_at}
use borrow.Author.Tests.{eqb-true, eqb-false}
use Rattle.bits.specs.Frame.{frame_bytes, frame_bit, count_at}
use Rattle.bits.specs.Checksum.{checksum_of}
use Rattle.bits.proofs.Weights.{raw_lt, count_bit}
use Rattle.books.specs.Book.{Placement, Message}
use Rattle.books.specs.Words.{messages_of}
use Rattle.books.proofs.Columns.{taken_stands}
use Rattle.catalogue.specs.Find.{bits_of_spec}
use Rattle.catalogue.specs.Class.{class_number}
use Rattle.std.specs.Prelude.{Result, Ok, Err}
use Rattle.catalogue.specs.declared.Class.{Class}
use Rattle.catalogue.specs.declared.NoClass.{NoClass}
use Rattle.catalogue.specs.declared.Class.TheVariants.{Value, Invalid, Absent, Error, Reserved, Outside}
use Rattle.catalogue.specs.declared.NoClass.TheVariants.{NotInCatalogue, TooWide}
use Rattle.framing.specs.declared.ReadRefusal.{ReadRefusal}
use Rattle.framing.specs.Messages.{checksum_number, checksum_start, checksum_bits, message_with, places_checksum, count_of, placed_class}
use Rattle.framing.specs.Reading.{Slices, class_code, checksum_holds, reading, readings, reading_number}
use Rattle.framing.specs.Packing.{packable, packing, packed_frame}
use Rattle.framing.specs.Packed.{CarriesValues, OnesElsewhere}
use Rattle.framing.specs.Demand.{placement_at, Counted, reserved_code, outside_code, NoneBarred, PacksAgain}
use Rattle.framing.proofs.WellPlaced.{WellPlaced, Sits, sound_message, sits_at}
use Rattle.framing.proofs.Classes.{read_class}
use Rattle.framing.proofs.PackedOnce.{packed_frame_law}
use Rattle.framing.proofs.Putting.{Accepted, accepted_judged}
use Rattle.framing.proofs.FrameSent.{is_packed, sum_placed}
use Rattle.framing.proofs.Answers.{WasRead, read_was, was_read, was_packed}
use Rattle.framing.proofs.ReadBack.{carried_at}

neither_packs : (c : Result Class NoClass) → class_number c ≡ 0 → (class_code c ≡ reserved_code → ⊥) → (class_code c ≡ outside_code → ⊥) → packable c ≡ true
neither_packs (Ok (Value t)) k r o = refl
neither_packs (Ok (Invalid x)) k r o = refl
neither_packs (Ok (Absent x)) k r o = refl
neither_packs (Ok (Error x)) k r o = refl
neither_packs (Ok (Reserved x)) k r o = absurd (r refl)
neither_packs (Ok (Outside x)) k r o = absurd (o refl)
neither_packs (Err NotInCatalogue) k r o = absurd (omega (arith, k))
neither_packs (Err TooWide) k r o = absurd (omega (arith, k))

-- a placement that is none, where one is asked for past the last
abbrev no_placement : Placement
no_placement = record { number = 0; start = 0 }

module _ (frame : List ℕ) where
  abbrev pub Counts : List Placement → List ℕ
  Counts ps = map (λ (p : Placement). count_of frame p) ps

  abbrev pub Codes : List Placement → List ℕ
  Codes ps = map (λ (p : Placement). class_code (placed_class frame p)) ps

  -- counts that were read, none of them reserved or outside, are accepted
  again : (ps : List Placement) → ((i : ℕ) → i < length ps → Sits (get_or ps i no_placement))
      → ((i : ℕ) → i < length ps → (get_or (Codes ps) i 0 ≡ reserved_code → ⊥) × (get_or (Codes ps) i 0 ≡ outside_code → ⊥)) → Accepted ps (Counts ps)
  again [] s h = Accepted.none
  again (p ∷ ps) s h =
      one p (s 0 (omega arith)) (h 0 (omega arith)) (again ps (λ i b. s (suc i) (omega arith)) (λ i b. h (suc i) (omega arith)))
    where
      one : (p : Placement) → Sits p → (class_code (placed_class frame p) ≡ reserved_code → ⊥) × (class_code (placed_class frame p) ≡ outside_code → ⊥) → Accepted ps (Counts ps) → Accepted (p ∷ ps) (count_of frame p ∷ Counts ps)
      one p s n a = go (eqb p.number checksum_number) refl
        where
          go : (b : Bool) → eqb p.number checksum_number ≡ b → Accepted (p ∷ ps) (count_of frame p ∷ Counts ps)
          go true e = Accepted.skip (eqb-true p.number checksum_number e) a
          go false e = Accepted.fine (eqb-false p.number checksum_number e) (raw_lt frame p.start (bits_of_spec p.number)) (neither_packs (placed_class frame p) (read_class frame p s) n.0 n.1) a

counts_at : (frame : List ℕ) (ps : List Placement) (d : Placement) (i : ℕ) → i < length ps → get_or (Counts frame ps) i 0 ≡ count_of frame (get_or ps i d)
counts_at frame [] d i h = absurd (not-suc-le-zero h)
counts_at frame (p ∷ ps) d zero h = refl
counts_at frame (p ∷ ps) d (suc i) h = counts_at frame ps d i (le_of_suc-le-suc h)

-- what was read of a frame, the frame carries
carries_own : (frame : List ℕ) (ps : List Placement) → CarriesValues frame ps (Counts frame ps)
unfolding CarriesValues
carries_own frame [] = tt
carries_own frame (p ∷ ps) = (λ _. refl, carries_own frame ps)

-- a frame that passes the check has its own checksum where the message places one
holds_sum : (m : Message) (frame : List ℕ) → checksum_holds m frame ≡ true → places_checksum m.placements ≡ true → count_at frame checksum_start checksum_bits ≡ checksum_of m.identifier frame
unfolding checksum_holds
holds_sum m frame h e = go (places_checksum m.placements) e h
  where
    go : (b : Bool) → b ≡ true → not b || eqb (count_at frame checksum_start checksum_bits) (checksum_of m.identifier frame) ≡ true
        → count_at frame checksum_start checksum_bits ≡ checksum_of m.identifier frame
    go true e h = eqb-true (count_at frame checksum_start checksum_bits) (checksum_of m.identifier frame) h
    go false e h = let z : ◌≡◌ {A = ℕ} 0 1 = cc in absurd (omega arith)

-- n counts were read by the message m, none of them reserved or outside
module _ (words : List ℕ) (identifier : ℕ) (frame : List ℕ) (small : (k : ℕ) → get_or frame k 0 < 256) (slices : Slices) (n : ℕ) (out : Slices)
    (e : reading words identifier frame slices ≡ (Ok n, out)) (m : Message) (w : WasRead words identifier frame slices m) (none : NoneBarred n out) where
  as_read : ◌≡◌ {A = Result ℕ ReadRefusal × Slices} (Ok (length m.placements), readings frame m.placements slices) (Ok n, out)
  as_read = sym (was_read words identifier frame slices m w) ∙ e

  count : length m.placements ≡ n
  count = let answers : ◌≡◌ {A = Result ℕ ReadRefusal} (Ok (length m.placements)) (Ok n) = ap (λ (x : Result ℕ ReadRefusal × Slices). x.0) as_read in (cc)

  outs : readings frame m.placements slices ≡ out
  outs = ap (λ (x : Result ℕ ReadRefusal × Slices). x.1) as_read

  sound : WellPlaced m.placements
  sound = sound_message identifier (messages_of words) m (taken_stands words w.taken).1 w.found

  abbrev Raws : List ℕ
  Raws = Counts frame m.placements

  many : length Raws ≡ length m.placements
  many = length-map m.placements (λ (p : Placement). count_of frame p)

  codes_many : length (Codes frame m.placements) ≡ length m.placements
  codes_many = length-map m.placements (λ (p : Placement). class_code (placed_class frame p))

  code_at : (i : ℕ) → i < length m.placements → get_or out.classes i 0 ≡ get_or (Codes frame m.placements) i 0
  code_at i h =
      ap (λ (x : Slices). get_or x.classes i 0) (sym outs)
      ∙ get_or-append (Codes frame m.placements) (drop (length (Codes frame m.placements)) slices.classes) 0 i (omega (arith, codes_many))

  fine : Accepted m.placements Raws
  fine = again frame m.placements (sits_at sound no_placement) (λ i h. let none' = none i (omega (arith, count)) in (λ c. none'.0 (code_at i h ∙ c), λ c. none'.1 (code_at i h ∙ c)))

  -- bit j of a count is bit j of the other
  kept : (i : ℕ) → i < length m.placements → Counted m i → (j : ℕ) → j < bits_of_spec (placement_at m i).number
      → frame_bit (packed_frame m Raws) ((placement_at m i).start + j) ≡ frame_bit frame ((placement_at m i).start + j)
  kept i h k j b =
      let p = placement_at m i in
      let new = is_packed m Raws sound fine in
      let inside = (sits_at sound (record { number = 0; start = 0 }) i h).fits.inside in
      let same : count_of (packed_frame m Raws) p ≡ count_of frame p =
      sym (counts_at (packed_frame m Raws) m.placements (record { number = 0; start = 0 }) i h)
      ∙ carried_at (packed_frame m Raws) m.placements Raws (record { number = 0; start = 0 }) new.counts many i (omega (arith, many)) k
      ∙ counts_at frame m.placements (record { number = 0; start = 0 }) i h in
      sym (count_bit (packed_frame m Raws) new.small p.start (bits_of_spec p.number) j inside b)
      ∙ ap (λ (n : ℕ). n / 2 ^ j % 2) same
      ∙ count_bit frame small p.start (bits_of_spec p.number) j inside b

  raws_first : take n out.raws ≡ Raws
  raws_first = ap (λ (x : Slices). take n x.raws) (sym outs) ∙ take_at Raws (drop (length Raws) slices.raws) n (many ∙ count)

  packs : (lent : List ℕ) → length lent ≡ frame_bytes → packing words identifier (take n out.raws) lent ≡ (Ok tt, packed_frame m Raws)
  packs lent eight =
      rw raws_first
      (was_packed words identifier Raws lent m (record { taken = w.taken; found = w.found; many = many; eight = eight; good = accepted_judged fine }))

  renews : PacksAgain words identifier frame n out.raws
  renews =
      let new = is_packed m Raws sound fine in
      record {
        message = m;
        found = w.found;
        packs = λ lent eight. rw (packs lent eight) (refl, record { kept = kept; checksum = new.checksum; ones = new.ones });
      }

  -- the frame carries its own counts and its own checksum, so with 1 in every other bit it is the packed one
  own_frame : OnesElsewhere m frame → frame ≡ packed_frame m Raws
  own_frame ones =
      packed_frame_law m Raws sound many frame
      (record {
        bytes = w.eight;
        small = small;
        counts = carries_own frame m.placements;
        checksum = sum_placed frame (checksum_of m.identifier frame) sound (holds_sum m frame w.checked);
        ones = ones;
      })

-- for every book, identifier, frame of bytes and slices: n counts were read, none of them reserved or outside
module _ (words : List ℕ) (identifier : ℕ) (frame : List ℕ) (small : (k : ℕ) → get_or frame k 0 < 256) (slices : Slices) (n : ℕ) (out : Slices)
    (e : reading words identifier frame slices ≡ (Ok n, out)) (none : NoneBarred n out) where
  was : (m : Message) × WasRead words identifier frame slices m
  was = read_was words identifier frame slices (ap (λ (x : Result ℕ ReadRefusal × Slices). reading_number x.0) e)

  pub packs_again : PacksAgain words identifier frame n out.raws
  packs_again = renews words identifier frame small slices n out e was.0 was.1 none

  -- and a frame that has 1 in every unplaced bit packs again to itself, 503 and all
  pub packs_same : (m : Message) → message_with identifier (messages_of words) ≡ some m → OnesElsewhere m frame → (lent : List ℕ) → length lent ≡ frame_bytes
      → packing words identifier (take n out.raws) lent ≡ (Ok tt, frame)
  packs_same m found ones lent eight =
      let one : some was.0 ≡ some m = sym was.1.found ∙ found in
      let same : was.0 ≡ m = (cc) in
      packs words identifier frame small slices n out e was.0 was.1 none lent eight
      ∙ ap (λ (f : List ℕ). (Ok tt, f)) (sym (own_frame words identifier frame small slices n out e was.0 was.1 none (subst⁻¹ (λ (x : Message). OnesElsewhere x frame) same ones)))
