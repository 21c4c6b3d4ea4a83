-- Doubling as a test that computes, over which routes reach which places, and that it says what it should. Assumes nothing.
use mathlib.Core.Path.{◌≡◌, refl, sym, ap, ◌∙◌}
use mathlib.Core.Logic.{◌⊎◌, inl, inr, ⊎_elim}
use mathlib.Core.Bool.{Bool, true, false, not, ◌||◌, ◌&&◌, and-eq-true_iff}
use Prim.Native.Nat.{ℕ, zero, suc, ◌<◌}
use native.Mathlib.Nat.{eq-or-lt_of_le, le_of_suc-le-suc}
use native.Mathlib.Omega.{arith}
use mathlib.Core.List.{List}
use lib.ListN.{length, get_or}
use lib.Dec.{eqb}
use borrow.Author.Tests.{eqb-true, eqb-false, eq-eqb, ne_eqb, not-true}
use Rattle.chains.specs.Chain.{LeadsOn, LoopFree, BeginsDoubling}
use Rattle.chains.specs.Tests.{any, FirstPassing}
use Rattle.chains.proofs.Walks.{walk_last}
use Rattle.chains.proofs.Bools.{or_cases, or_left, or_right}
use Rattle.chains.proofs.Reach.{reach, reach_leads, leads_reach}
use Rattle.chains.proofs.Forks.{ComesTo, Fork, LeadsToFork, begins_fork, fork_begins}

pub any_some : (n : ℕ) (P : ℕ → Bool) → any n P ≡ true → (k : ℕ) × (k < n) × (P k ≡ true)
any_some zero P e = let z : ◌≡◌ {A = ℕ} 0 1 = cc in absurd (omega arith)
any_some (suc n) P e = ⊎_elim (λ h. let r = any_some n P h in (r.0, omega (arith, r.1), r.2)) (λ h. (n, omega arith, h)) (or_cases (any n P) (P n) e)

pub some_any : (n : ℕ) (P : ℕ → Bool) (k : ℕ) → k < n → P k ≡ true → any n P ≡ true
some_any zero P k l e = absurd (omega arith)
some_any (suc n) P k l e =
    ⊎_elim (λ h. or_right (any n P) (P n) (let x : k ≡ n = omega arith in ap P (sym x) ∙ e)) (λ h. or_left (any n P) (P n) (some_any n P k (le_of_suc-le-suc h) e)) (eq-or-lt_of_le l)

-- there is a first number below n that passes, or none
pub first : (P : ℕ → Bool) (n : ℕ) → (r : ℕ) × FirstPassing P n r
first P zero = (0, record { within = omega arith; before = λ k l. absurd (omega arith); found = λ l. absurd (omega arith) })
first P (suc n) = go (first P n) (P n) refl
  where
    go : (r : ℕ) × FirstPassing P n r → (b : Bool) → P n ≡ b → (r : ℕ) × FirstPassing P (suc n) r
    go (r, f) b e = at (eq-or-lt_of_le f.within) b e
      where
        at : (r ≡ n) ⊎ (r < n) → (b : Bool) → P n ≡ b → (r : ℕ) × FirstPassing P (suc n) r
        at (inr l) b e = (r, record { within = omega arith; before = f.before; found = λ _. f.found l })
        at (inl k) true e = (n, record { within = omega arith; before = λ x l. f.before x (omega arith); found = λ _. e })
        at (inl k) false e = (
          suc n,
          record {
            within = omega arith;
            before = λ x l. ⊎_elim (λ h. let y : x ≡ n = omega arith in ap P y ∙ e) (λ h. f.before x (omega arith)) (eq-or-lt_of_le l);
            found = λ l. absurd (omega arith);
          },
        )

module _ (fs ts : List ℕ) where
  unfoldable pub comes_to : ℕ → ℕ → Bool
  comes_to i j = reach fs ts (length fs) i (get_or fs j 0) || eqb j i

  -- both routes lead on to the end of one route
  unfoldable pub meet_again : ℕ → ℕ → Bool
  meet_again a b = any (length fs) (λ v. reach fs ts (length fs) a (get_or ts v 0) && reach fs ts (length fs) b (get_or ts v 0))

  unfoldable pub fork : ℕ → ℕ → Bool
  fork a b = (not (eqb a b) && eqb (get_or fs a 0) (get_or fs b 0)) && meet_again a b

  unfoldable pub begins : ℕ → Bool
  begins i = any (length fs) (λ a. comes_to i a && any (length fs) (λ b. fork a b))

  comes_is : (i j : ℕ) → comes_to i j ≡ true → ComesTo fs ts i j
  unfolding comes_to
  comes_is i j e =
      ⊎_elim (λ h. inr (reach_leads fs ts i (get_or fs j 0) h)) (λ h. inl (sym (eqb-true _ _ h))) (or_cases (reach fs ts (length fs) i (get_or fs j 0)) (eqb j i) e)

  is_comes : (i j : ℕ) → ComesTo fs ts i j → comes_to i j ≡ true
  unfolding comes_to
  is_comes i j (inl e) = or_right (reach fs ts (length fs) i (get_or fs j 0)) (eqb j i) (eq-eqb _ _ (sym e))
  is_comes i j (inr w) = or_left (reach fs ts (length fs) i (get_or fs j 0)) (eqb j i) (leads_reach fs ts i (get_or fs j 0) w)

  fork_is : (a b : ℕ) → a < length fs → b < length fs → fork a b ≡ true → Fork fs ts a b
  unfolding fork meet_again
  fork_is a b la lb e =
      let g = (and-eq-true_iff (not (eqb a b) && eqb (get_or fs a 0) (get_or fs b 0)) (meet_again a b)).0 e in
      let h = (and-eq-true_iff (not (eqb a b)) (eqb (get_or fs a 0) (get_or fs b 0))).0 g.0 in
      let r = any_some (length fs) (λ v. reach fs ts (length fs) a (get_or ts v 0) && reach fs ts (length fs) b (get_or ts v 0)) g.1 in
      let k = (and-eq-true_iff (reach fs ts (length fs) a (get_or ts r.0 0)) (reach fs ts (length fs) b (get_or ts r.0 0))).0 r.2 in
      record {
        first = la;
        second = lb;
        apart = eqb-false a b (not-true (eqb a b) h.0);
        same = eqb-true _ _ h.1;
        place = get_or ts r.0 0;
        along_first = reach_leads fs ts a (get_or ts r.0 0) k.0;
        along_second = reach_leads fs ts b (get_or ts r.0 0) k.1;
      }

  -- where a route leads on to is the end of some route
  end_of : (a x : ℕ) → a < length fs → LeadsOn fs ts a x → (v : ℕ) × (v < length fs) × (get_or ts v 0 ≡ x)
  end_of a x l (c, w) = walk_last fs ts (get_or fs a 0) a c x (l, refl, w)

  is_fork : (a b : ℕ) → Fork fs ts a b → fork a b ≡ true
  unfolding fork meet_again
  is_fork a b k =
      let u = end_of a k.place k.first k.along_first in
      let met : reach fs ts (length fs) a (get_or ts u.0 0) && reach fs ts (length fs) b (get_or ts u.0 0) ≡ true =
      (and-eq-true_iff (reach fs ts (length fs) a (get_or ts u.0 0)) (reach fs ts (length fs) b (get_or ts u.0 0))).1
      (rw u.2 (leads_reach fs ts a k.place k.along_first), rw u.2 (leads_reach fs ts b k.place k.along_second))
      in
      (and-eq-true_iff _ _).1 (
        (and-eq-true_iff _ _).1 (ap not (ne_eqb a b k.apart), eq-eqb _ _ k.same),
        some_any (length fs) (λ v. reach fs ts (length fs) a (get_or ts v 0) && reach fs ts (length fs) b (get_or ts v 0)) u.0 u.1 met,
      )

  pub begins_is : (i : ℕ) → i < length fs → begins i ≡ true → BeginsDoubling fs ts i
  unfolding begins
  begins_is i l e =
      let r = any_some (length fs) (λ a. comes_to i a && any (length fs) (λ b. fork a b)) e in
      let g = (and-eq-true_iff (comes_to i r.0) (any (length fs) (λ b. fork r.0 b))).0 r.2 in
      let s = any_some (length fs) (λ b. fork r.0 b) g.1 in
      fork_begins fs ts i l (r.0, s.0, comes_is i r.0 g.0, fork_is r.0 s.0 r.1 s.1 s.2)

  pub is_begins : LoopFree fs ts → (i : ℕ) → BeginsDoubling fs ts i → begins i ≡ true
  unfolding begins
  is_begins free i b = go (begins_fork fs ts free i b)
    where
      go : LeadsToFork fs ts i → begins i ≡ true
      go (a, b, s, k) =
          some_any (length fs) (λ a. comes_to i a && any (length fs) (λ b. fork a b)) a k.first
          ((and-eq-true_iff _ _).1 (is_comes i a s, some_any (length fs) (λ b. fork a b) b k.second (is_fork a b k)))
