-- Where a place stands first. Assumes nothing.
use mathlib.Core.Path.{◌≡◌, refl, sym, ◌∙◌}
use mathlib.Core.Logic.{◌⊎◌, inl, inr, ⊎_elim}
use Prim.Native.Nat.{ℕ, zero, suc, ◌<◌, ◌≤◌}
use native.Mathlib.Omega.{arith}
use native.Mathlib.Nat.{eq-or-lt_of_le}
use native.Mathlib.Decide.{dec_le, ℕ_discrete}
use mathlib.Core.List.{List}
use lib.ListN.{length, get_or}
use borrow.Author.Count.{below_more}
use Rattle.numbering.specs.Numbers.{FirstAt}

-- of the first m places none is p, or there is a first that is
abbrev pub Searched : List ℕ → ℕ → ℕ → Type 0
Searched places p m = ((r : ℕ) × (r < m) × (get_or places r 0 ≡ p) × ((j : ℕ) → j < r → get_or places j 0 ≡ p → ⊥)) ⊎ ((j : ℕ) → j < m → get_or places j 0 ≡ p → ⊥)

pub search_first : (places : List ℕ) (p m : ℕ) → Searched places p m
search_first places p zero = inr (λ j l. absurd (omega arith))
search_first places p (suc m) = go (search_first places p m) (ℕ_discrete (get_or places m 0) p)
  where
    go : Searched places p m → Dec (get_or places m 0 ≡ p) → Searched places p (suc m)
    go (inl (r, l, e, n)) d = inl (r, omega arith, e, n)
    go (inr n) (yes e) = inl (m, omega arith, e, n)
    go (inr n) (no f) = inr (λ j l. below_more (λ (x : ℕ). get_or places x 0 ≡ p → ⊥) m n f j (omega arith))

pub first_at_law : (places : List ℕ) (i : ℕ) → (r : ℕ) × FirstAt places i r
first_at_law places i = go (search_first places (get_or places i 0) (suc i))
  where
    go : Searched places (get_or places i 0) (suc i) → (r : ℕ) × FirstAt places i r
    go (inl (r, l, e, n)) = (r, record { within = omega arith; same = e; none_before = n })
    go (inr n) = absurd (n i (omega arith) refl)

-- it is first for every index that has the place
pub first_moved : (places : List ℕ) (i m r : ℕ) → FirstAt places i r → get_or places m 0 ≡ get_or places i 0 → FirstAt places m r
first_moved places i m r f e = go (dec_le r m)
  where
    go : Dec (r ≤ m) → FirstAt places m r
    go (yes l) = record { within = l; same = f.same ∙ sym e; none_before = λ k b q. f.none_before k b (q ∙ e) }
    go (no n) = absurd (f.none_before m (omega arith) e)

-- and it is one number
pub first_once : (places : List ℕ) (i r s : ℕ) → FirstAt places i r → FirstAt places i s → r ≡ s
first_once places i r s f g = go (dec_le r s)
  where
    go : Dec (r ≤ s) → r ≡ s
    go (yes l) = ⊎_elim (λ e. e) (λ b. absurd (g.none_before r b f.same)) (eq-or-lt_of_le l)
    go (no n) = absurd (f.none_before s (omega arith) g.same)

-- the number of a place
abbrev pub picked : (places : List ℕ) (p m : ℕ) → Searched places p m → ℕ
picked places p m (inl found) = found.0
picked places p m (inr none) = m

unfoldable pub number_of : List ℕ → ℕ → ℕ
number_of places p = picked places p (length places) (search_first places p (length places))

pub number_first : (places : List ℕ) (i r : ℕ) → i < length places → FirstAt places i r → r ≡ number_of places (get_or places i 0)
unfolding number_of
number_first places i r l f = go (search_first places (get_or places i 0) (length places))
  where
    go : (s : Searched places (get_or places i 0) (length places)) → r ≡ picked places (get_or places i 0) (length places) s
    go (inl (x, b, e, n)) = first_once places i r x f (first_moved places x i x (record { within = omega arith; same = refl; none_before = λ k c q. n k c (q ∙ e) }) (sym e))
    go (inr n) = absurd (n i l refl)
