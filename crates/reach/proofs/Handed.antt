-- What one route hands on, and what several do. Assumes nothing.
use mathlib.Core.Path.{◌≡◌, refl, sym, ap, ◌∙◌, subst}
use mathlib.Core.Logic.{◌⊎◌, ⊎_elim}
use mathlib.Core.Bool.{Bool, true, false, not, ◌||◌, false≢true}
use mathlib.Mathlib.Data.Bool.Basic.{or-eq-false-eq-eq-false-and-eq-false}
use Prim.Native.Nat.{ℕ, ◌<◌}
use native.Mathlib.Omega.{arith}
use native.Mathlib.Decide.{ℕ_discrete}
use mathlib.Core.List.{List, [], ◌∷◌}
use lib.ListN.{length, get_or, set, length-set}
use lib.Seq.{get_or-set_same, get_or-set_other}
use lib.Dec.{eqb}
use borrow.Author.Tests.{eqb-true, eqb-false, not-true, not-false}
use Rattle.masks.specs.Bit.{bit}
use Rattle.masks.proofs.Told.{more_bits}
use Rattle.chains.specs.Chain.{Walk, Chain}
use Rattle.chains.proofs.Bools.{or_cases, or_left, or_right}
use Rattle.reach.specs.Handing.{total, Real, HandedOn, Handing}
use Rattle.reach.proofs.Growing.{total_set, set_same}

module _ (starts ends : List ℕ) where
  -- a chain is a walk
  pub as_walk : (p : ℕ) (c : List ℕ) (q : ℕ) → Chain starts ends p c q → Walk starts ends p c q
  as_walk p [] q w = elim w [ ]
  as_walk p (i ∷ c) q w = w

  -- route j hands on: w is what it leads to, and v what its start has then
  module _ (m : List ℕ) (j s e w v : ℕ) (is_start : s ≡ get_or starts j 0) (is-end : e ≡ get_or ends j 0) (l : j < length starts) (low : s < length m)
      (leads : (k : ℕ) → bit w k ≡ bit (get_or m e 0) k || eqb k e) (gets : (k : ℕ) → bit v k ≡ bit (get_or m s 0) k || bit w k) where
    begun : (y : ℕ) (c : List ℕ) → Walk starts ends (get_or ends j 0) c y → Chain starts ends s (j ∷ c) y
    begun y c u = (l, sym is_start, u)

    got : Real starts ends m → (y : ℕ) → bit v y ≡ true → (c : List ℕ) × Chain starts ends s c y
    unfolding Real
    got r y h =
        ⊎_elim (λ a. r s y a)
        (λ b. ⊎_elim
        (λ d. let t = r e y d in (j ∷ t.0, begun y t.0 (subst (λ (p : ℕ). Walk starts ends p t.0 y) is-end (as_walk e t.0 y t.1))))
        (λ d. (j ∷ [], begun y [] (sym is-end ∙ sym (eqb-true y e d))))
        (or_cases (bit (get_or m e 0) y) (eqb y e) (sym (leads y) ∙ b)))
        (or_cases (bit (get_or m s 0) y) (bit w y) (sym (gets y) ∙ h))

    real : Real starts ends m → Real starts ends (set m s v)
    unfolding Real
    real r x y h = go (ℕ_discrete x s)
      where
        go : Dec (x ≡ s) → (c : List ℕ) × Chain starts ends x c y
        go (yes q) =
            subst (λ (p : ℕ). (c : List ℕ) × Chain starts ends p c y) (sym q)
            (got r y (ap (λ (z : ℕ). bit z y) (sym (get_or-set_same m s v 0 low)) ∙ ap (λ (z : ℕ). bit (get_or (set m s v) z 0) y) (sym q) ∙ h))
        go (no n) = r x y (ap (λ (z : ℕ). bit z y) (sym (get_or-set_other m s x v 0 n)) ∙ h)

    had : (i : ℕ) → i ≡ j → (k : ℕ) → v ≡ get_or m s 0 → bit (get_or m (get_or ends i 0) 0) k || eqb k (get_or ends i 0) ≡ true → bit (get_or m (get_or starts i 0) 0) k ≡ true
    had i q k same b =
        let to : get_or ends i 0 ≡ e = ap (λ (x : ℕ). get_or ends x 0) q ∙ sym is-end in
        let from : s ≡ get_or starts i 0 = is_start ∙ ap (λ (x : ℕ). get_or starts x 0) (sym q) in
        let hands : bit w k ≡ true = leads k ∙ subst (λ (x : ℕ). bit (get_or m x 0) k || eqb k x ≡ true) to b in
        subst (λ (x : ℕ). bit (get_or m x 0) k ≡ true) from (ap (λ (x : ℕ). bit x k) (sym same) ∙ gets k ∙ or_right (bit (get_or m s 0) k) (bit w k) hands)

    pub handing_one : Handing starts ends (λ i. i ≡ j) m (set m s v) (not (eqb v (get_or m s 0)))
    handing_one = record {
      long = length-set m s v;
      real = real;
      grown = λ h.
          let more = more_bits (get_or m s 0) v (λ k b. gets k ∙ or_left (bit (get_or m s 0) k) (bit w k) b) in
          let other = eqb-false v (get_or m s 0) (not-true (eqb v (get_or m s 0)) h) in
          omega (arith, more, other, total_set m s v low);
      settled = λ h.
          let same = eqb-true v (get_or m s 0) (not-false (eqb v (get_or m s 0)) h) in
          (set_same m s v same, λ i q k b. had i q k same b);
    }

  pub handing_none : (Some : ℕ → Type 0) (m : List ℕ) → ((j : ℕ) → Some j → ⊥) → Handing starts ends Some m m false
  handing_none Some m none = record { long = refl; real = λ r. r; grown = λ h. absurd (false≢true h); settled = λ h. (refl, λ j s. absurd (none j s)) }

  -- some hand on, and then others
  module _ (Some Others : ℕ → Type 0) (old m now : List ℕ) (a b : Bool) (f : Handing starts ends Some old m a) (g : Handing starts ends Others m now b) where
    grown_both : (a' b' : Bool) → a ≡ a' → b ≡ b' → a' || b' ≡ true → total old < total now
    grown_both true true p q h = omega (arith, f.grown p, g.grown q)
    grown_both true false p q h = omega (arith, f.grown p, ap total (g.settled q).0)
    grown_both false true p q h = omega (arith, ap total (f.settled p).0, g.grown q)
    grown_both false false p q h = absurd (false≢true h)

    pub handing_both : (All : ℕ → Type 0) → ((j : ℕ) → All j → Some j ⊎ Others j) → Handing starts ends All old now (a || b)
    handing_both All either = record {
      long = g.long ∙ f.long;
      real = λ r. g.real (f.real r);
      grown = grown_both a b refl refl;
      settled = λ h.
          let e = (or-eq-false-eq-eq-false-and-eq-false a b).0 h in
          let s = f.settled e.0 in
          let t = g.settled e.1 in
          (t.0 ∙ s.0, λ j k. ⊎_elim (λ x. s.1 j x) (λ y. subst (λ (l : List ℕ). HandedOn starts ends l j) s.0 (t.1 j y)) (either j k));
    }
