-- How many slots are empty. Assumes nothing.
use mathlib.Core.Path.{◌≡◌, refl}
use mathlib.Core.Bool.{cond}
use Prim.Native.Nat.{ℕ, zero, suc, ◌+◌, ◌<◌, ◌≤◌}
use native.Mathlib.Omega.{arith}
use mathlib.Core.List.{List, [], ◌∷◌}
use lib.ListN.{length, get_or, set, replicate}
use lib.Dec.{eqb}
use borrow.Author.Tests.{ne_eqb}
use Rattle.numbering.specs.Slots.{empties}

-- a slot that is filled is one less
pub empties_set : (l : List ℕ) (at v : ℕ) → empties l ≤ empties (set l at v) + 1
unfolding empties
empties_set [] at v = omega arith
empties_set (x ∷ l) zero v = let h : cond (eqb x 0) 1 0 ≤ 1 = one x in omega (arith, h)
  where
    one : (x : ℕ) → cond (eqb x 0) 1 0 ≤ 1
    one zero = omega arith
    one (suc x) = rw (ne_eqb (suc x) 0 (λ z. absurd (omega arith))) (omega arith)
empties_set (x ∷ l) (suc at) v = omega (arith, empties_set l at v)

-- where no slot is empty
pub empties_none : (l : List ℕ) → ((x : ℕ) → x < length l → get_or l x 0 ≡ 0 → ⊥) → empties l ≡ 0
unfolding empties
empties_none [] h = refl
empties_none (x ∷ l) h = rw (ne_eqb x 0 (h 0 (omega arith)), empties_none l (λ y b. h (suc y) (omega arith))) refl

-- where all are
pub empties_all : (n : ℕ) → empties (replicate n 0) ≡ n
unfolding empties
empties_all zero = refl
empties_all (suc n) = omega (arith, empties_all n)
