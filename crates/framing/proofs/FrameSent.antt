-- The frame that putting makes holds every count at its place, the checksum where the message places it, and 1 in every other bit:
-- so it is the packed frame (`put_sent`). Assumes nothing.
use mathlib.Core.Path.{◌≡◌, refl, sym, ap, ◌∙◌, subst}
use mathlib.Core.Bool.{Bool, true, false, ◌||◌}
use mathlib.Core.Logic.{◌⊎◌, inl, inr, ⊎_elim}
use mathlib.Core.List.{List, [], ◌∷◌}
use Prim.Native.Nat.{ℕ, ◌+◌, ◌^◌, ◌≤◌, ◌<◌}
use native.Mathlib.Omega.{arith}
use lib.Dec.{eqb, lit<, lit≤}
use lib.ListN.{length}
use borrow.Author.Tests.{eqb-true}
use Rattle.bits.specs.Word.{bytes_of}
use Rattle.bits.specs.Frame.{frame_bit, count_at}
use Rattle.bits.specs.Checksum.{checksum_of}
use Rattle.bits.proofs.Placing.{ones}
use Rattle.bits.proofs.Weights.{read_bytes, bytes_bit, of_bytes}
use Rattle.books.specs.Book.{Placement, Message, numbers}
use Rattle.books.specs.Lines.{is_in, frame_bits}
use Rattle.catalogue.specs.Find.{bits_of_spec}
use Rattle.std.specs.Prelude.{Result, Ok, Err}
use Rattle.framing.specs.declared.PackRefusal.{PackRefusal}
use Rattle.framing.specs.Messages.{checksum_number, checksum_start, checksum_bits, places_checksum}
use Rattle.framing.specs.Packing.{judged_values, packed_frame, packed_or}
use Rattle.framing.specs.Putting.{all_ones, put, with_checksum, put_frame}
use Rattle.framing.specs.Packed.{CarriesValues, HasChecksum, Unplaced, IsPacked}
use Rattle.framing.proofs.WellPlaced.{WellPlaced}
use Rattle.framing.proofs.Putting.{Accepted, accepted, accepted_many, Off, put_keeps, put_lt, Has, put_has}
use Rattle.framing.proofs.Summing.{check_bits, clear, placed_there, summed_lt, summed_keeps, summed_sum, summed_has}
use Rattle.framing.proofs.PackedOnce.{packed_frame_law}

-- what a word has, its bytes carry
carries : (w : ℕ) → w < 2 ^ frame_bits → {ps : List Placement} {vs : List ℕ} → WellPlaced ps → Has w ps vs → CarriesValues (bytes_of w) ps vs
unfolding CarriesValues
carries w hw WellPlaced.none Has.none = tt
carries w hw (WellPlaced.more sits b s) (Has.more {p} {ps} {v} {vs} e h) =
    (λ n. read_bytes w p.start (bits_of_spec p.number) hw sits.fits.inside ∙ e n, carries w hw s h)

-- a message that places 503 after one more placement still places it
places_more : (p : Placement) (ps : List Placement) → places_checksum ps ≡ true → places_checksum (p ∷ ps) ≡ true
unfolding is_in
places_more p ps e = go (eqb checksum_number p.number) (is_in checksum_number (numbers ps)) e
  where
    go : (a b : Bool) → b ≡ true → a || b ≡ true
    go true b e = refl
    go false b e = e

-- where the field at 503's place is this sum, each placement of 503 has it
pub sum_placed : (f : List ℕ) (sum : ℕ) {ps : List Placement} → WellPlaced ps → (places_checksum ps ≡ true → count_at f checksum_start checksum_bits ≡ sum) → HasChecksum f sum ps
unfolding HasChecksum
sum_placed f sum WellPlaced.none h = tt
sum_placed f sum (WellPlaced.more {p} {ps} sits b s) h = (
  λ e. ap (λ (k : ℕ). count_at f k (bits_of_spec p.number)) (sits.check e) ∙ ap (count_at f checksum_start) (check_bits p e) ∙ h (placed_there p ps e),
  sum_placed f sum s (λ e. h (places_more p ps e)),
)

unplaced_off : (k : ℕ) (ps : List Placement) → Unplaced k ps → Off k 1 ps
unfolding Unplaced
unplaced_off k [] u = Off.none
unplaced_off k (p ∷ ps) u = Off.more (λ _. ⊎_elim (λ h. inr (omega arith)) inl u.0) (unplaced_off k ps u.1)

-- a bit of no placement is none of 503's
unplaced_check : (k : ℕ) {ps : List Placement} → WellPlaced ps → Unplaced k ps → places_checksum ps ≡ true → (k + 1 ≤ checksum_start) ⊎ (frame_bits ≤ k)
unfolding Unplaced is_in
unplaced_check k WellPlaced.none u h = let z : ◌≡◌ {A = ℕ} 0 1 = cc in absurd (omega arith)
unplaced_check k (WellPlaced.more {p} {ps} sits b s) u h = go (eqb checksum_number p.number) refl h (unplaced_check k s u.1)
  where
    here : p.number ≡ checksum_number → (k + 1 ≤ checksum_start) ⊎ (frame_bits ≤ k)
    here e =
        let a : p.start ≡ checksum_start = sits.check e in
        let c : bits_of_spec p.number ≡ checksum_bits = check_bits p e in
        ⊎_elim (λ x. inl (omega arith)) (λ x. inr (omega arith)) u.0

    go : (t : Bool) → eqb checksum_number p.number ≡ t → t || is_in checksum_number (numbers ps) ≡ true
        → (is_in checksum_number (numbers ps) ≡ true → (k + 1 ≤ checksum_start) ⊎ (frame_bits ≤ k)) → (k + 1 ≤ checksum_start) ⊎ (frame_bits ≤ k)
    go true e h rest = here (sym (eqb-true checksum_number p.number e))
    go false e h rest = rest h

module _ (m : Message) (vs : List ℕ) (s : WellPlaced m.placements) (a : Accepted m.placements vs) where
  abbrev Carrying : ℕ
  Carrying = put all_ones m.placements vs

  abbrev Whole : ℕ
  Whole = with_checksum m.identifier m.placements Carrying

  whole_lt : Whole < 2 ^ frame_bits
  whole_lt = summed_lt m.identifier Carrying m.placements (put_lt all_ones s a (lit< tt))

  bit_one : (k : ℕ) → k < frame_bits → Unplaced k m.placements → frame_bit (bytes_of Whole) k ≡ 1
  bit_one k h u =
      bytes_bit Whole k whole_lt h
      ∙ summed_keeps m.identifier Carrying m.placements k 1 (unplaced_check k s u)
      ∙ put_keeps all_ones k 1 a (unplaced_off k m.placements u)
      ∙ ones k 1 (omega arith)

  put_checksum : places_checksum m.placements ≡ true → count_at (put_frame m vs) checksum_start checksum_bits ≡ checksum_of m.identifier (put_frame m vs)
  unfolding put_frame
  put_checksum e = read_bytes Whole checksum_start checksum_bits whole_lt (lit≤ tt) ∙ summed_sum m.identifier Carrying m.placements e

  put_packed : IsPacked m vs (put_frame m vs)
  unfolding put_frame
  put_packed =
      record {
        bytes = (of_bytes Whole).many;
        small = (of_bytes Whole).small;
        counts = carries Whole whole_lt s (summed_has m.identifier Carrying m.placements (clear s) (put_has all_ones s a));
        checksum = sum_placed (bytes_of Whole) (checksum_of m.identifier (bytes_of Whole)) s put_checksum;
        ones = bit_one;
      }

  -- what putting makes is the frame that is sent
  pub put_sent : put_frame m vs ≡ packed_frame m vs
  put_sent = packed_frame_law m vs s (accepted_many a) (put_frame m vs) put_packed

  pub is_packed : IsPacked m vs (packed_frame m vs)
  is_packed = subst (IsPacked m vs) put_sent put_packed

  -- the field at 503's place is the checksum of the frame
  pub own_checksum : places_checksum m.placements ≡ true → count_at (packed_frame m vs) checksum_start checksum_bits ≡ checksum_of m.identifier (packed_frame m vs)
  own_checksum e = subst (λ (f : List ℕ). count_at f checksum_start checksum_bits ≡ checksum_of m.identifier f) put_sent (put_checksum e)

-- refused or not, it makes no difference to the lent frame which of the two is written
pub put_or : (m : Message) (vs lent : List ℕ) → WellPlaced m.placements → length vs ≡ length m.placements
    → packed_or (judged_values m.placements vs) (put_frame m vs) lent ≡ packed_or (judged_values m.placements vs) (packed_frame m vs) lent
put_or m vs lent s n = go (judged_values m.placements vs) refl
  where
    go : (r : Result (Unit {0}) PackRefusal) → judged_values m.placements vs ≡ r → packed_or r (put_frame m vs) lent ≡ packed_or r (packed_frame m vs) lent
    go (Ok _) e = put_sent m vs s (accepted m.placements vs n e)
    go (Err why) e = refl
