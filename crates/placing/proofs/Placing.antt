-- One signal against its frame. Assumes nothing.
use mathlib.Core.Path.{◌≡◌, sym, ap, ◌∙◌}
use mathlib.Core.Bool.{Bool, true, false, ◌||◌, not, or-true, or-false, not-not}
use Prim.Native.Nat.{ℕ, ◌+◌, ◌-◌, ◌≤◌, ◌<◌}
use native.Mathlib.Nat.{pos_of_ne-zero}
use native.Mathlib.Omega.{arith}
use lib.Dec.{eqb, leb, ltb}
use borrow.Author.Tests.{ne_eqb, eqb-false, lt-ltb, le-ltb, le-leb, lt-leb, leb-false, ltb-false}
use Rattle.catalogue.specs.Find.{bits_of_spec}
use Rattle.catalogue.proofs.Found.{few_bits}
use Rattle.books.specs.Book.{Placement, placement}
use Rattle.books.specs.Fixed.{checksum_number, checksum_start, counter_number, counter_start}
use Rattle.books.specs.Lines.{unknown_or_over, misplaced, frame_bits, start_limit}
use Rattle.books.proofs.Tests.{neither, both_false}
use Rattle.placing.specs.Placing.{stands_alone, FrameRoom}

-- ---- by itself: past the frame's end, and the two that have a start of their own
module _ (n s b : ℕ) (e : b ≡ bits_of_spec n) where
  pub past_end : frame_bits < s + b → misplaced (placement n s) ≡ true
  unfolding misplaced
  past_end h = rw (← e, lt-ltb _ _ h)

  pub not_past : misplaced (placement n s) ≡ false → s + b ≤ frame_bits
  unfolding misplaced
  not_past m = omega (arith, e, ltb-false frame_bits (s + bits_of_spec n) (both_false (ltb frame_bits (s + bits_of_spec n)) _ m).0)

  module _ (h : s + b ≤ frame_bits) where
    pub sum_placed : n ≡ checksum_number → misplaced (placement n s) ≡ not (eqb s checksum_start)
    unfolding misplaced
    sum_placed f = rw (← e, le-ltb _ _ h, f) (or-false (not (eqb s checksum_start)))

    pub counter_placed : n ≡ counter_number → misplaced (placement n s) ≡ not (eqb s counter_start)
    unfolding misplaced
    counter_placed f = rw (← e, le-ltb _ _ h, f)

    pub well_placed : (n ≡ checksum_number → ⊥) → (n ≡ counter_number → ⊥) → misplaced (placement n s) ≡ false
    unfolding misplaced
    well_placed f g = rw (← e, le-ltb _ _ h, ne_eqb _ _ f, ne_eqb _ _ g)

-- ---- a number of the catalogue, at a start within the limit
module _ (n s : ℕ) where
  pub unknown : bits_of_spec n ≡ 0 → unknown_or_over (placement n s) ≡ true
  unfolding unknown_or_over
  unknown e = rw e

  pub over : start_limit ≤ s → unknown_or_over (placement n s) ≡ true
  unfolding unknown_or_over
  over g = rw (le-leb _ _ g) (or-true (eqb (bits_of_spec n) 0))

  pub known : (bits_of_spec n ≡ 0 → ⊥) → s < start_limit → unknown_or_over (placement n s) ≡ false
  unfolding unknown_or_over
  known e g = rw (ne_eqb _ _ e, lt-leb _ _ g)

-- a signal that stands alone has bits
pub has_bits : (p : Placement) → stands_alone p ≡ true → 0 < bits_of_spec p.number
unfolding unknown_or_over
has_bits p h =
    let n = neither (eqb (bits_of_spec p.number) 0 || leb frame_bits p.start) (misplaced p) h in
    pos_of_ne-zero (eqb-false _ _ (both_false (eqb (bits_of_spec p.number) 0) (leb frame_bits p.start) n.0).0)

-- and a frame has room for them
pub alone_room : (n s b : ℕ) → b ≡ bits_of_spec n → stands_alone (placement n s) ≡ true → FrameRoom s b
unfolding unknown_or_over
alone_room n s b e h =
    let p = placement n s in
    let a = neither (unknown_or_over p) (misplaced p) h in
    let u = both_false (eqb (bits_of_spec n) 0) (leb frame_bits s) a.0 in
    record { from = leb-false _ _ u.1; some = rw e (has_bits p h); few = omega (arith, e, few_bits n); to = not_past n s b e a.1 }

-- ---- a signal that has bits, by where they end and by the start of its own
module _ (n s b : ℕ) (known_bits : (0 < b) × (b ≡ bits_of_spec n)) where
  few : b ≤ frame_bits
  few = omega (arith, known_bits.1, few_bits n)

  pub alone_past : frame_bits - b < s → false ≡ stands_alone (placement n s)
  alone_past h =
      sym (ap (λ (t : Bool). not (unknown_or_over (placement n s) || t)) (past_end n s b known_bits.1 (omega (arith, few, h)))
      ∙ ap not (or-true (unknown_or_over (placement n s))))

  module _ (h : s ≤ frame_bits - b) where
    inside : s + b ≤ frame_bits
    inside = omega (arith, few, h)

    only_misplaced : stands_alone (placement n s) ≡ not (misplaced (placement n s))
    only_misplaced =
        let k = known_bits.0 in
        let g : s < start_limit = omega (arith, inside, k) in
        ap (λ (t : Bool). not (t || misplaced (placement n s))) (known n s (λ z. let e = known_bits.1 in omega (arith, k, e, z)) g)

    pub alone_sum : n ≡ checksum_number → eqb s checksum_start ≡ stands_alone (placement n s)
    alone_sum f = sym (only_misplaced ∙ ap not (sum_placed n s b known_bits.1 inside f) ∙ not-not (eqb s checksum_start))

    pub alone_counter : n ≡ counter_number → eqb s counter_start ≡ stands_alone (placement n s)
    alone_counter f = sym (only_misplaced ∙ ap not (counter_placed n s b known_bits.1 inside f) ∙ not-not (eqb s counter_start))

    pub alone_free : (n ≡ checksum_number → ⊥) → (n ≡ counter_number → ⊥) → true ≡ stands_alone (placement n s)
    alone_free f g = sym (only_misplaced ∙ ap not (well_placed n s b known_bits.1 inside f g))
