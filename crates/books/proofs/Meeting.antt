-- Refusal 8 in document 01's words: bits meet exactly where some frame bit belongs to both signals. Assumes nothing.
use mathlib.Core.Path.{◌≡◌, refl, sym, ap, ◌∙◌, subst}
use mathlib.Core.Logic.{◌↔◌}
use mathlib.Core.Bool.{Bool, true, false, ◌||◌, or-true, and-eq-true_iff}
use mathlib.Core.List.{List, [], ◌∷◌, ◌++◌}
use Prim.Native.Nat.{ℕ, ◌+◌, ◌≤◌, ◌<◌}
use native.Mathlib.Omega.{arith}
use native.Mathlib.Nat.{pos_of_ne-zero}
use lib.Dec.{leb, ltb, eqb}
use borrow.Author.Tests.{lt-ltb, le-leb, ltb-true, leb-true, leb-false, eqb-false}
use Rattle.catalogue.specs.Find.{bits_of_spec}
use Rattle.books.specs.Book.{Placement, Message, fresh, last_placements}
use Rattle.books.specs.Lines.{unknown_or_over, meets, meets_earlier, start_limit}
use Rattle.books.specs.Built.{Built}
use Rattle.books.specs.Built as built
use Rattle.books.specs.Belonging.{in_run, bit_belongs, covers, SharesBit, SharesEarlier, HaveBits, none, more}
use Rattle.books.proofs.Tests.{neither, both_false}
use Rattle.books.proofs.Ends.{last_placements_law, last_longer}
use Rattle.books.proofs.Building.{signal_taken}

-- ---- a frame bit of a signal, by its limits

record In (p : Placement) (k : ℕ) : Type 0 where
  from : p.start ≤ k
  to : k < p.start + bits_of_spec p.number

belongs_in : (p : Placement) (k : ℕ) → bit_belongs p k ≡ true → In p k
unfolding in_run
belongs_in p k e = let t = (and-eq-true_iff (leb p.start k) _).0 e in record { from = leb-true _ _ t.0; to = ltb-true _ _ t.1 }

in_belongs : (p : Placement) (k : ℕ) → In p k → bit_belongs p k ≡ true
unfolding in_run
in_belongs p k i = (and-eq-true_iff (leb p.start k) (ltb k (p.start + bits_of_spec p.number))).1 (le-leb _ _ i.from, lt-ltb _ _ i.to)

-- ---- two signals

module _ (p q : Placement) where
  pub shared_meets : SharesBit p q → meets p q ≡ true
  unfolding meets
  shared_meets s =
      let i = belongs_in p s.0 s.1 in
      let j = belongs_in q s.0 s.2 in
      (and-eq-true_iff (ltb p.start (q.start + bits_of_spec q.number)) (ltb q.start (p.start + bits_of_spec p.number))).1 (
        lt-ltb p.start (q.start + bits_of_spec q.number) (omega (arith, i.from, j.to)),
        lt-ltb q.start (p.start + bits_of_spec p.number) (omega (arith, j.from, i.to)),
      )

  -- the higher of the two starts belongs to both
  pub meets_shared : 0 < bits_of_spec p.number → 0 < bits_of_spec q.number → meets p q ≡ true → SharesBit p q
  unfolding meets
  meets_shared h g m = go (leb p.start q.start) refl
    where
      limits : (p.start < q.start + bits_of_spec q.number) × (q.start < p.start + bits_of_spec p.number)
      limits = let b = (and-eq-true_iff (ltb p.start (q.start + bits_of_spec q.number)) _).0 m in (ltb-true _ _ b.0, ltb-true _ _ b.1)

      go : (t : Bool) → leb p.start q.start ≡ t → SharesBit p q
      go true l = (
        q.start,
        in_belongs p q.start (record { from = leb-true _ _ l; to = limits.1 }),
        in_belongs q q.start (record { from = omega arith; to = omega (arith, g) }),
      )
      go false l = (
        p.start,
        in_belongs p p.start (record { from = omega arith; to = omega (arith, h) }),
        in_belongs q p.start (record { from = omega (arith, leb-false p.start q.start l); to = limits.0 }),
      )

-- ---- a signal and those before it

pub shared_earlier : (qs : List Placement) (p : Placement) → SharesEarlier qs p → meets_earlier qs p ≡ true
unfolding covers meets_earlier
shared_earlier [] p s = s.1
shared_earlier (q ∷ qs) p s = go (bit_belongs q s.0) refl (λ c. shared_earlier qs p (s.0, c, s.2))
  where
    go : (t : Bool) → bit_belongs q s.0 ≡ t → (covers qs s.0 ≡ true → meets_earlier qs p ≡ true) → meets p q || meets_earlier qs p ≡ true
    go true e later = ap (λ (t : Bool). t || meets_earlier qs p) (shared_meets p q (s.0, s.2, e))
    go false e later =
        ap (λ (t : Bool). meets p q || t) (later (ap (λ (t : Bool). t || covers qs s.0) (sym e) ∙ s.1)) ∙ or-true (meets p q)

pub earlier_shared : (qs : List Placement) (p : Placement) → HaveBits qs → 0 < bits_of_spec p.number → meets_earlier qs p ≡ true → SharesEarlier qs p
unfolding covers meets_earlier
earlier_shared [] p w h e = let z : ◌≡◌ {A = ℕ} 0 1 = cc in absurd (omega arith)
earlier_shared (q ∷ qs) p (more g w) h e = go (meets p q) refl (λ f. earlier_shared qs p w h f)
  where
    go : (t : Bool) → meets p q ≡ t → (meets_earlier qs p ≡ true → SharesEarlier qs p) → SharesEarlier (q ∷ qs) p
    go true m later =
        let s = meets_shared p q h g m in
        (s.0, ap (λ (t : Bool). t || covers qs s.0) s.2, s.1)
    go false m later =
        let s = later (ap (λ (t : Bool). t || meets_earlier qs p) (sym m) ∙ e) in
        (s.0, ap (λ (t : Bool). bit_belongs q s.0 || t) s.1 ∙ or-true (bit_belongs q s.0), s.2)

-- ---- the messages of a book: each signal is of the catalogue, and so has bits

pub have_more : {qs : List Placement} (p : Placement) → HaveBits qs → 0 < bits_of_spec p.number → HaveBits (qs ++ (p ∷ []))
have_more p none h = more h none
have_more p (more g w) h = more g (have_more p w h)

known_bits : (p : Placement) → unknown_or_over p ≡ false → 0 < bits_of_spec p.number
unfolding unknown_or_over
known_bits p e = pos_of_ne-zero (eqb-false _ _ (both_false (eqb (bits_of_spec p.number) 0) (leb start_limit p.start) e).0)

built_bits : {ms : List Message} → Built ms → HaveBits (last_placements ms)
unfolding last_placements
built_bits built.none = none
built_bits (built.message {ms} i b e) = subst HaveBits (sym (last_placements_law ms (fresh i))) none
built_bits (built.signal {ms} p b e) =
    let t = signal_taken ms p e in
    subst HaveBits (sym (last_longer ms p (pos_of_ne-zero t.there)))
    (have_more p (built_bits b) (known_bits p (neither (unknown_or_over p) _ t.fits).0))

-- 8: "bits meet an earlier signal of the message". After the lines of a book, a signal of the catalogue has it exactly where some frame bit
-- belongs to it and to an earlier signal of its message
pub bits_meet : (ms : List Message) (p : Placement) → Built ms → unknown_or_over p ≡ false → (meets_earlier (last_placements ms) p ≡ true) ↔ SharesEarlier (last_placements ms) p
bits_meet ms p b k = (earlier_shared (last_placements ms) p (built_bits b) (known_bits p k), shared_earlier (last_placements ms) p)
