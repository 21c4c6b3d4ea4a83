-- A frame of which `IsPacked` holds is the packed frame, bit by bit: so it holds of no other. Assumes nothing.
use mathlib.Core.Path.{◌≡◌, refl, sym, ap, ◌∙◌}
use mathlib.Core.Bool.{Bool, true, false, cond, ◌&&◌}
use mathlib.Core.Logic.{◌⊎◌, inl, inr}
use mathlib.Core.List.{List, [], ◌∷◌}
use Prim.Native.Nat.{ℕ, ◌+◌, ◌-◌, ◌/◌, ◌%◌, ◌^◌, ◌≤◌, ◌<◌}
use native.Mathlib.Omega.{arith}
use lib.Dec.{eqb, leb, ltb, lit≤}
use lib.ListN.{length}
use borrow.Author.Tests.{leb-true, leb-false, ltb-true, ltb-false, eqb-true, eqb-false}
use Rattle.bits.specs.Frame.{frame_bytes, frame_bit, Bytes}
use Rattle.bits.specs.Checksum.{checksum_of}
use Rattle.bits.proofs.Weights.{count_bit}
use Rattle.books.specs.Belonging.{in_run}
use Rattle.books.specs.Book.{Placement, Message}
use Rattle.books.specs.Lines.{frame_bits}
use Rattle.catalogue.specs.Find.{bits_of_spec}
use Rattle.framing.specs.Messages.{checksum_number, checksum_start, count_of}
use Rattle.framing.specs.Packing.{bit_sent, frame_sent, packed_frame}
use Rattle.framing.specs.Packed.{CarriesValues, HasChecksum, Unplaced, IsPacked}
use Rattle.framing.proofs.WellPlaced.{Sits, WellPlaced}
use Rattle.framing.proofs.FrameBits.{frame_same, sum_same, own_bits}

-- ---- the bits of a frame that carries the values

module _ (f : List ℕ) (F : Bytes frame_bytes f) (sum k : ℕ) where
  -- a bit of a placement that has this count
  in_place : (p : Placement) (v : ℕ) → Sits p → count_of f p ≡ v → p.start ≤ k → k < p.start + bits_of_spec p.number → frame_bit f k ≡ v / 2 ^ (k - p.start) % 2
  in_place p v s e a b =
      let j = k - p.start in
      let at : p.start + j ≡ k = omega arith in
      ap (frame_bit f) (sym at)
      ∙ sym (count_bit f F.small p.start (bits_of_spec p.number) j s.fits.inside (omega arith))
      ∙ ap (λ (n : ℕ). n / 2 ^ j % 2) e

  bit_sent_law : {ps : List Placement} (vs : List ℕ) → WellPlaced ps → length vs ≡ length ps → CarriesValues f ps vs → HasChecksum f sum ps → (Unplaced k ps → frame_bit f k ≡ 1)
      → frame_bit f k ≡ bit_sent sum ps vs k
  unfolding CarriesValues HasChecksum Unplaced bit_sent in_run
  bit_sent_law vs WellPlaced.none n c d free = free tt
  bit_sent_law [] (WellPlaced.more s z r) n c d free = absurd (omega arith)
  bit_sent_law (v ∷ vs) (WellPlaced.more {p} {ps} s z r) n c d free =
      go (leb p.start k) (ltb k (p.start + bits_of_spec p.number)) (eqb p.number checksum_number) refl refl refl
      (λ u. bit_sent_law vs r (omega arith) c.1 d.1 (λ w. free (u, w)))
    where
      go : (i j e : Bool) → leb p.start k ≡ i → ltb k (p.start + bits_of_spec p.number) ≡ j → eqb p.number checksum_number ≡ e
          → ((k < p.start) ⊎ (p.start + bits_of_spec p.number ≤ k) → frame_bit f k ≡ bit_sent sum ps vs k)
          → frame_bit f k ≡ cond (i && j) (cond e sum v / 2 ^ (k - p.start) % 2) (bit_sent sum ps vs k)
      go false j e l m o on = on (inl (leb-false p.start k l))
      go true false e l m o on = on (inr (ltb-false k (p.start + bits_of_spec p.number) m))
      go true true true l m o on = in_place p sum s (d.0 (eqb-true p.number checksum_number o)) (leb-true p.start k l) (ltb-true k (p.start + bits_of_spec p.number) m)
      go true true false l m o on = in_place p v s (c.0 (eqb-false p.number checksum_number o)) (leb-true p.start k l) (ltb-true k (p.start + bits_of_spec p.number) m)

-- below 503's place the bits do not depend on what is sent there
check_aside : (x y k : ℕ) {ps : List Placement} (vs : List ℕ) → WellPlaced ps → k < checksum_start → bit_sent x ps vs k ≡ bit_sent y ps vs k
unfolding bit_sent in_run
check_aside x y k vs WellPlaced.none h = refl
check_aside x y k [] (WellPlaced.more s z r) h = refl
check_aside x y k (v ∷ vs) (WellPlaced.more {p} {ps} s z r) h =
    go (leb p.start k) (ltb k (p.start + bits_of_spec p.number)) (eqb p.number checksum_number) refl refl (check_aside x y k vs r h)
  where
    go : (i j e : Bool) → leb p.start k ≡ i → eqb p.number checksum_number ≡ e → bit_sent x ps vs k ≡ bit_sent y ps vs k
        → cond (i && j) (cond e x v / 2 ^ (k - p.start) % 2) (bit_sent x ps vs k) ≡ cond (i && j) (cond e y v / 2 ^ (k - p.start) % 2) (bit_sent y ps vs k)
    go false j e l o on = on
    go true false e l o on = on
    go true true false l o on = refl
    go true true true l o on =
        let at = s.check (eqb-true p.number checksum_number o) in
        let le = leb-true p.start k l in
        absurd (omega arith)

-- ---- one frame

module _ (m : Message) (vs : List ℕ) (s : WellPlaced m.placements) (n : length vs ≡ length m.placements) where
  -- a frame that carries the values of a message of a taken book is the packed frame
  pub packed_frame_law : (f : List ℕ) → IsPacked m vs f → f ≡ packed_frame m vs
  unfolding packed_frame
  packed_frame_law f P =
      let F : Bytes frame_bytes f = record { many = P.bytes; small = P.small } in
      let sum = checksum_of m.identifier f in
      let own : f ≡ frame_sent sum m.placements vs = sym (own_bits f F)
      ∙ frame_same (frame_bit f) (bit_sent sum m.placements vs) frame_bits (λ k h. bit_sent_law f F sum k vs s n P.counts P.checksum (P.ones k h)) (lit≤ tt) in
      let same : sum ≡ checksum_of m.identifier (frame_sent 0 m.placements vs) = ap (checksum_of m.identifier) own
      ∙ sum_same (bit_sent sum m.placements vs) (bit_sent 0 m.placements vs) checksum_start (λ k h. check_aside sum 0 k vs s h) (lit≤ tt) m.identifier in
      own ∙ ap (λ (x : ℕ). frame_sent x m.placements vs) same

-- so any two are the same
pub packed_once : (m : Message) (vs f g : List ℕ) → WellPlaced m.placements → length vs ≡ length m.placements → IsPacked m vs f → IsPacked m vs g → f ≡ g
packed_once m vs f g s n F G = packed_frame_law m vs s n f F ∙ sym (packed_frame_law m vs s n g G)
