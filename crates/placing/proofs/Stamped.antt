-- Stamps put on one place after the other. Assumes nothing.
use mathlib.Core.Path.{◌≡◌, refl, sym, ap, ◌∙◌, subst}
use mathlib.Core.Bool.{Bool, true, false, cond, ◌||◌, or-true, or-false, or_assoc, true≢false}
use mathlib.Core.List.{List, [], ◌∷◌, ◌++◌}
use Prim.Native.Nat.{ℕ, ◌+◌, ◌≤◌, ◌<◌}
use native.Mathlib.Omega.{arith}
use native.Mathlib.Decide.{dec_le}
use lib.Dec.{eqb}
use lib.ListN.{length, get_or, set, length-set}
use lib.Seq.{get_or-set_same, get_or-set_other, set_out}
use borrow.Author.Tests.{eqb-true, eqb-false, eq-eqb, ne_eqb}
use Rattle.catalogue.specs.Places.{place_of, no_place_spec}
use Rattle.catalogue.proofs.Placed.{one_number}
use Rattle.books.specs.Book.{Placement}
use Rattle.books.specs.Lines.{is_in}
use Rattle.books.specs.Good.{fits_after, good_after}
use Rattle.placing.specs.Stamps.{fixed_place, Below, Stamped, stamped_at, stamped_after, stamped_test}

is_in_more : (ns : List ℕ) (m n : ℕ) → is_in n (ns ++ (m ∷ [])) ≡ is_in n ns || eqb n m
unfolding is_in
is_in_more [] m n = or-false (eqb n m)
is_in_more (x ∷ ns) m n = ap (λ (t : Bool). eqb n x || t) (is_in_more ns m n) ∙ sym (or_assoc (eqb n x) (is_in n ns) (eqb n m))

pub stamped_none : (st : List ℕ) (s : ℕ) → Below st s → Stamped st s []
unfolding is_in
stamped_none st s b n h k = ne_eqb (get_or st (place_of n) 0) s (λ e. let l = b.below (place_of n) k in omega (arith, e, l))

set_more : (st : List ℕ) (s : ℕ) (ns : List ℕ) (m : ℕ) → length st ≡ no_place_spec → place_of m < no_place_spec → Stamped st s ns → Stamped (set st (place_of m) s) s (ns ++ (m ∷ []))
set_more st s ns m l h f n g k = go (eqb (place_of n) (place_of m)) refl
  where
    go : (b : Bool) → eqb (place_of n) (place_of m) ≡ b → eqb (get_or (set st (place_of m) s) (place_of n) 0) s ≡ is_in n (ns ++ (m ∷ []))
    go true e =
        let same = eqb-true (place_of n) (place_of m) e in
        let inside : place_of m < length st = omega (arith, l, h) in
        eq-eqb _ _ (ap (λ (p : ℕ). get_or (set st (place_of m) s) p 0) same ∙ get_or-set_same st (place_of m) s 0 inside)
        ∙ sym (is_in_more ns m n ∙ ap (λ (t : Bool). is_in n ns || t) (eq-eqb n m (one_number n m same h)) ∙ or-true (is_in n ns))
    go false e =
        let other = eqb-false (place_of n) (place_of m) e in
        ap (λ (x : ℕ). eqb x s) (get_or-set_other st (place_of m) (place_of n) s 0 other) ∙ f n g k
        ∙ sym (is_in_more ns m n ∙ ap (λ (t : Bool). is_in n ns || t) (ne_eqb n m (λ d. other (ap place_of d))) ∙ or-false (is_in n ns))

pub stamped_more : (st : List ℕ) (s : ℕ) (ns : List ℕ) (m : ℕ) → length st ≡ no_place_spec → place_of m < no_place_spec → Stamped st s ns
    → Stamped (stamped_at st (place_of m) s) s (ns ++ (m ∷ []))
stamped_more st s ns m l h f = go (fixed_place (place_of m)) refl
  where
    go : (b : Bool) → fixed_place (place_of m) ≡ b → Stamped (cond b st (set st (place_of m) s)) s (ns ++ (m ∷ []))
    go true e n g k =
        let other : n ≡ m → ⊥ = λ d. true≢false (sym e ∙ ap (λ (x : ℕ). fixed_place (place_of x)) (sym d) ∙ k) in
        f n g k ∙ sym (is_in_more ns m n ∙ ap (λ (t : Bool). is_in n ns || t) (ne_eqb n m other) ∙ or-false (is_in n ns))
    go false e n g k = set_more st s ns m l h f n g k

pub below_next : (st : List ℕ) (s : ℕ) → Below st s → Below st (s + 1)
below_next st s b = record { each = b.each; fixed = b.fixed; below = λ p f. let l = b.below p f in omega (arith, l) }

set_below : (st : List ℕ) (s k : ℕ) → fixed_place k ≡ false → Below st (s + 1) → Below (set st k s) (s + 1)
set_below st s k free b = record {
  each = length-set st k s ∙ b.each;
  fixed = λ p f. get_or-set_other st k p s 0 (λ e. true≢false (sym f ∙ ap fixed_place e ∙ free)) ∙ b.fixed p f;
  below = λ p f. go p f (eqb p k) refl (dec_le (length st) k);
}
  where
    go : (p : ℕ) → fixed_place p ≡ false → (t : Bool) → eqb p k ≡ t → Dec (length st ≤ k) → get_or (set st k s) p 0 < s + 1
    go p f true e (no n) =
        let l : k < length st = omega arith in
        let v = ap (λ (q : ℕ). get_or (set st k s) q 0) (eqb-true p k e) ∙ get_or-set_same st k s 0 l in
        omega (arith, v)
    go p f true e (yes l) = subst (λ (u : List ℕ). get_or u p 0 < s + 1) (sym (set_out st k s l)) (b.below p f)
    go p f false e d =
        let v = get_or-set_other st k p s 0 (eqb-false p k e) in
        let l = b.below p f in
        omega (arith, v, l)

pub below_more : (st : List ℕ) (s k : ℕ) → Below st (s + 1) → Below (stamped_at st k s) (s + 1)
below_more st s k b = go (fixed_place k) refl
  where
    go : (t : Bool) → fixed_place k ≡ t → Below (cond t st (set st k s)) (s + 1)
    go true e = b
    go false e = set_below st s k e b

either_below : (s : ℕ) (one other : List ℕ) (t : Bool) → Below one (s + 1) → Below other (s + 1) → Below (cond t one other) (s + 1)
either_below s one other true a b = a
either_below s one other false a b = b

-- what the test of a message's signals leaves is below the next stamp
after_below : (before ps : List Placement) (s : ℕ) (st : List ℕ) → Below st (s + 1) → Below (stamped_after before ps s st) (s + 1)
unfolding stamped_after
after_below before [] s st b = b
after_below before (p ∷ ps) s st b =
    either_below s _ st (fits_after before p) (after_below (before ++ (p ∷ [])) ps s (stamped_at st (place_of p.number) s) (below_more st s (place_of p.number) b)) b

-- what the contract of `well_placed` gives: the answer, and that the stamps are below the next one
module _ (r : Bool) (ps : List Placement) (s : ℕ) (lent left : List ℕ) (e : ◌≡◌ {A = Bool × List ℕ} (r, left) (stamped_test ps s lent)) where
  pub its_answer : r ≡ good_after [] ps
  its_answer = ap (λ (x : Bool × List ℕ). x.0) e

  pub left_below : Below lent s → Below left (s + 1)
  left_below b = subst (λ (x : Bool × List ℕ). Below x.1 (s + 1)) (sym e) (after_below [] ps s lent (below_next lent s b))
