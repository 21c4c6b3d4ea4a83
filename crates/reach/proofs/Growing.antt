-- What masks come to as numbers, put together. Assumes nothing.
use mathlib.Core.Path.{◌≡◌, refl, ap, ◌∙◌}
use mathlib.Core.Bool.{true}
use Prim.Native.Nat.{ℕ, zero, suc, ◌+◌, ◌*◌, ◌/◌, ◌^◌, ◌<◌, ◌≤◌}
use native.Mathlib.Nat.{suc-mul, pow-succ'}
use native.Mathlib.Omega.{arith}
use mathlib.Core.List.{List, [], ◌∷◌}
use lib.ListN.{length, get_or, set}
use Rattle.masks.specs.Bit.{bit}
use Rattle.masks.proofs.Bits.{bit_suc}
use Rattle.masks.proofs.Told.{more_bits}
use Rattle.reach.specs.Handing.{total}

pub total_set : (l : List ℕ) (i v : ℕ) → i < length l → total (set l i v) + get_or l i 0 ≡ total l + v
unfolding total
total_set [] i v h = absurd (omega arith)
total_set (x ∷ l) zero v h = omega arith
total_set (x ∷ l) (suc i) v h = omega (arith, total_set l i v (omega arith))

pub set_same : (l : List ℕ) (i v : ℕ) → v ≡ get_or l i 0 → set l i v ≡ l
set_same [] i v e = refl
set_same (x ∷ l) zero v e = ap (λ (y : ℕ). y ∷ l) e
set_same (x ∷ l) (suc i) v e = ap (λ (y : List ℕ). x ∷ y) (set_same l i v e)

-- masks of b bits
pub total_most : (l : List ℕ) (b : ℕ) → ((x : ℕ) → get_or l x 0 ≤ b) → total l ≤ length l * b
unfolding total
total_most [] b h = omega arith
total_most (x ∷ l) b h = let k = total_most l b (λ y. h (suc y)) in let f = h 0 in omega (arith, suc-mul (length l) b)

-- a mask whose bits are all below w
pub bits_below : (w n : ℕ) → ((k : ℕ) → bit n k ≡ true → k < w) → n < 2 ^ w
bits_below zero n f = omega (arith, more_bits n 0 (λ k e. absurd (omega (arith, f k e))))
bits_below (suc w) n f = omega (arith, pow-succ' 2 w, bits_below w (n / 2) (λ k e. omega (arith, f (suc k) (bit_suc n k ∙ e))))
