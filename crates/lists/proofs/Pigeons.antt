-- A list without repeats whose entries are all in a list l is no longer than l. Assumes nothing.
use mathlib.Core.Path.{◌≡◌, refl, sym, ap, ◌∙◌, subst}
use mathlib.Core.Logic.{⊎_elim}
use Prim.Native.Nat.{ℕ, suc, ◌≤◌, ◌<◌}
use native.Mathlib.Omega.{arith}
use mathlib.Core.List.Memᴰ
use mathlib.Core.List.{List, [], ◌∷◌, Memᴰ}
use lib.ListN.{length}
use Rattle.lists.specs.Lists.{Distinct, Subset, numbers_below}
use Rattle.lists.proofs.Lists.{length_below, mem_below}

module _ {A : Type 0} where
  -- l without one x: one shorter, and everything else is still there
  remove : (x : A) (l : List A) → Memᴰ x l → (r : List A) × (length l ≡ suc (length r)) × ((y : A) → (y ≡ x → ⊥) → Memᴰ y l → Memᴰ y r)
  remove x [] m = elim m [ ]
  remove x (a ∷ l) (Memᴰ.head e) = (l, refl, λ y ne m. ⊎_elim (λ (e' : y ≡ a). absurd (ne (e' ∙ sym e))) (λ t. t) (Memᴰ.cases_cons m))
  remove x (a ∷ l) (Memᴰ.tail m) = more (remove x l m)
    where
      more : (r : List A) × (length l ≡ suc (length r)) × ((y : A) → (y ≡ x → ⊥) → Memᴰ y l → Memᴰ y r)
          → (r : List A) × (length (a ∷ l) ≡ suc (length r)) × ((y : A) → (y ≡ x → ⊥) → Memᴰ y (a ∷ l) → Memᴰ y r)
      more (r, n, k) = (a ∷ r, ap suc n, λ y ne m. ⊎_elim (λ (e : y ≡ a). Memᴰ.head e) (λ t. Memᴰ.tail (k y ne t)) (Memᴰ.cases_cons m))

  pub pigeons : (c l : List A) → Distinct c → Subset c l → length c ≤ length l
  pigeons [] l d s = omega arith
  pigeons (x ∷ c) l (nx, d) s =
      let r = remove x l (s x (Memᴰ.head refl)) in
      let h = pigeons c r.0 d (λ y m. r.2 y (λ e. nx (subst (λ (z : A). Memᴰ z c) e m)) (s y (Memᴰ.tail m))) in
      omega (arith, h, r.1)

-- a list of different numbers below n has at most n
pub below_length : (n : ℕ) (c : List ℕ) → Distinct c → ((x : ℕ) → Memᴰ x c → x < n) → length c ≤ n
below_length n c d b = rw length_below at (pigeons c (numbers_below n) d (λ x m. mem_below n x (b x m)))
