-- The two signals that have a start of their own, told by their places: they stand alone just at that start, every other wherever a
-- frame has room for it; and one of the two that comes again meets itself. Assumes nothing.
use mathlib.Core.Path.{◌≡◌, refl, sym, ap, ◌∙◌}
use mathlib.Core.Bool.{Bool, true, false, cond, ◌||◌, or-true, and-eq-true_iff, true≢false}
use mathlib.Core.List.{List, [], ◌∷◌, ◌++◌}
use Prim.Native.Nat.{ℕ, ◌+◌, ◌-◌, ◌≤◌, ◌<◌}
use native.Mathlib.Omega.{arith}
use lib.Dec.{eqb, ltb}
use borrow.Author.Tests.{eqb-true, eqb-false, lt-ltb}
use Rattle.rows.specs.Rows.{rows}
use Rattle.catalogue.specs.Find.{bits_of_spec}
use Rattle.catalogue.specs.Places.{place_of, checksum_place, counter_place}
use Rattle.catalogue.proofs.Placed.{one_number}
use Rattle.books.specs.Book.{Placement, numbers, placement}
use Rattle.books.specs.Fixed.{checksum_number, checksum_start, counter_number, counter_start}
use Rattle.books.specs.Lines.{is_in, meets, meets_earlier, frame_bits}
use Rattle.books.specs.Belonging.{HaveBits, none, more}
use Rattle.books.proofs.Tests.{both_false}
use Rattle.placing.specs.Placing.{stands_alone}
use Rattle.placing.specs.Stamps.{fixed_place, at_fixed_start}
use Rattle.placing.proofs.Placing.{has_bits, alone_room, alone_sum, alone_counter, alone_free}

-- ---- their places

checksum_there : place_of checksum_number ≡ checksum_place
unfolding place_of rows
checksum_there = refl

counter_there : place_of counter_number ≡ counter_place
unfolding place_of rows
counter_there = refl

checksum_alone_there : (n : ℕ) → place_of n ≡ checksum_place → n ≡ checksum_number
checksum_alone_there n e = one_number n checksum_number (e ∙ sym checksum_there) (omega (arith, checksum_there))

counter_alone_there : (n : ℕ) → place_of n ≡ counter_place → n ≡ counter_number
counter_alone_there n e = one_number n counter_number (e ∙ sym counter_there) (omega (arith, counter_there))

pub fixed_there : (p s : ℕ) → at_fixed_start p s ≡ true → fixed_place p ≡ true
fixed_there p s = go (eqb p checksum_place) (eqb p counter_place)
  where
    go : (a b : Bool) → cond a (eqb s checksum_start) (cond b (eqb s counter_start) false) ≡ true → a || b ≡ true
    go true b e = refl
    go false true e = refl
    go false false e = e

one_start : (p s t : ℕ) → at_fixed_start p s ≡ true → at_fixed_start p t ≡ true → s ≡ t
one_start p s t = go (eqb p checksum_place) (eqb p counter_place)
  where
    go : (a b : Bool) → cond a (eqb s checksum_start) (cond b (eqb s counter_start) false) ≡ true
        → cond a (eqb t checksum_start) (cond b (eqb t counter_start) false) ≡ true → s ≡ t
    go true b e f = eqb-true s checksum_start e ∙ sym (eqb-true t checksum_start f)
    go false true e f = eqb-true s counter_start e ∙ sym (eqb-true t counter_start f)
    go false false e f = absurd (true≢false (sym e))

-- ---- where a signal of so many bits stands alone, within its frame
module _ (n s b : ℕ) (known_bits : (0 < b) × (b ≡ bits_of_spec n)) (h : s ≤ frame_bits - b) where
  pub fixed_alone : fixed_place (place_of n) ≡ true → at_fixed_start (place_of n) s ≡ stands_alone (placement n s)
  fixed_alone = go (eqb (place_of n) checksum_place) refl (eqb (place_of n) counter_place) refl
    where
      go : (a : Bool) → eqb (place_of n) checksum_place ≡ a → (c : Bool) → eqb (place_of n) counter_place ≡ c → a || c ≡ true
          → cond a (eqb s checksum_start) (cond c (eqb s counter_start) false) ≡ stands_alone (placement n s)
      go true e c f k = alone_sum n s b known_bits h (checksum_alone_there n (eqb-true (place_of n) checksum_place e))
      go false e true f k = alone_counter n s b known_bits h (counter_alone_there n (eqb-true (place_of n) counter_place f))
      go false e false f k = absurd (true≢false (sym k))

  pub others_alone : fixed_place (place_of n) ≡ false → true ≡ stands_alone (placement n s)
  others_alone f =
      let both = both_false (eqb (place_of n) checksum_place) (eqb (place_of n) counter_place) f in
      alone_free n s b known_bits h (λ e. eqb-false (place_of n) checksum_place both.0 (ap place_of e ∙ checksum_there))
      (λ e. eqb-false (place_of n) counter_place both.1 (ap place_of e ∙ counter_there))

-- ---- signals that each stand alone
pub data EachAlone : List Placement → Type 0 where
  no_signal : EachAlone []
  one_more : {q : Placement} {qs : List Placement} → stands_alone q ≡ true → EachAlone qs → EachAlone (q ∷ qs)

pub alone_more : {qs : List Placement} (p : Placement) → EachAlone qs → stands_alone p ≡ true → EachAlone (qs ++ (p ∷ []))
alone_more p no_signal h = one_more h no_signal
alone_more p (one_more g w) h = one_more g (alone_more p w h)

pub alone_wide : {qs : List Placement} → EachAlone qs → HaveBits qs
alone_wide no_signal = none
alone_wide (one_more {q = q} g w) = more (has_bits q g) (alone_wide w)

at_its_start : (p : Placement) → fixed_place (place_of p.number) ≡ true → stands_alone p ≡ true → at_fixed_start (place_of p.number) p.start ≡ true
at_its_start p f h =
    let room = alone_room p.number p.start (bits_of_spec p.number) refl h in
    fixed_alone p.number p.start (bits_of_spec p.number) (room.some, refl) (omega (arith, room.to)) f ∙ h

same_meets : (p q : Placement) → p.start ≡ q.start → 0 < bits_of_spec p.number → 0 < bits_of_spec q.number → meets p q ≡ true
unfolding meets
same_meets p q e h g =
    (and-eq-true_iff (ltb p.start (q.start + bits_of_spec q.number)) (ltb q.start (p.start + bits_of_spec p.number))).1 (
      lt-ltb p.start (q.start + bits_of_spec q.number) (omega (arith, e, g)),
      lt-ltb q.start (p.start + bits_of_spec p.number) (omega (arith, e, h)),
    )

-- one of the two that comes again
pub again_meets : (qs : List Placement) (p : Placement) → EachAlone qs → stands_alone p ≡ true → fixed_place (place_of p.number) ≡ true
    → is_in p.number (numbers qs) ≡ true → meets_earlier qs p ≡ true
unfolding is_in meets_earlier
again_meets [] p w h f e = e
again_meets (q ∷ qs) p (one_more g w) h f e = go (eqb p.number q.number) refl (λ i. again_meets qs p w h f i)
  where
    go : (t : Bool) → eqb p.number q.number ≡ t → (is_in p.number (numbers qs) ≡ true → meets_earlier qs p ≡ true) → meets p q || meets_earlier qs p ≡ true
    go true s later =
        let same = eqb-true p.number q.number s in
        let its : at_fixed_start (place_of p.number) q.start ≡ true =
        ap (λ (n : ℕ). at_fixed_start (place_of n) q.start) same ∙ at_its_start q (ap (λ (n : ℕ). fixed_place (place_of n)) (sym same) ∙ f) g
        in
        ap (λ (t : Bool). t || meets_earlier qs p)
        (same_meets p q (one_start (place_of p.number) p.start q.start (at_its_start p f h) its) (has_bits p h) (has_bits q g))
    go false s later =
        ap (λ (t : Bool). meets p q || t) (later (ap (λ (t : Bool). t || is_in p.number (numbers qs)) (sym s) ∙ e)) ∙ or-true (meets p q)
