-- A mask with all bits of another is no smaller as a number; so a mask is told by its bits. Assumes nothing.
use mathlib.Core.Path.{◌≡◌, sym, ap, ◌∙◌}
use mathlib.Core.Bool.{true}
use Prim.Native.Nat.{ℕ, zero, suc, ◌/◌, ◌%◌, ◌^◌, ◌<◌, ◌≤◌}
use native.Mathlib.Nat.{pow-succ', div-one}
use native.Mathlib.Omega.{arith}
use native.Mathlib.Decide.{ℕ_discrete}
use borrow.Author.Tests.{eqb-true, eq-eqb}
use Rattle.masks.specs.Bit.{bit}
use Rattle.masks.proofs.Bits.{bit_suc, below_pow}

bit_odd : (m : ℕ) → m % 2 ≡ 1 → bit m 0 ≡ true
unfolding bit
bit_odd m e = eq-eqb _ _ (ap (λ (x : ℕ). x % 2) (div-one m) ∙ e)

odd_bit : (m : ℕ) → bit m 0 ≡ true → m % 2 ≡ 1
unfolding bit
odd_bit m e = ap (λ (x : ℕ). x % 2) (sym (div-one m)) ∙ eqb-true _ _ e

bits_le : (w a b : ℕ) → a < 2 ^ w → ((k : ℕ) → bit a k ≡ true → bit b k ≡ true) → a ≤ b
bits_le zero a b h f = omega arith
bits_le (suc w) a b h f =
    let half = bits_le w (a / 2) (b / 2) (omega (arith, pow-succ' 2 w)) (λ k e. sym (bit_suc b k) ∙ f (suc k) (bit_suc a k ∙ e)) in
    low (ℕ_discrete (a % 2) 1) half
  where
    low : Dec (a % 2 ≡ 1) → a / 2 ≤ b / 2 → a ≤ b
    low (yes e) half = omega (arith, odd_bit b (f 0 (bit_odd a e)))
    low (no n) half = omega arith

pub more_bits : (a b : ℕ) → ((k : ℕ) → bit a k ≡ true → bit b k ≡ true) → a ≤ b
more_bits a b f = bits_le a a b (below_pow a) f

pub same_bits : (a b : ℕ) → ((k : ℕ) → bit a k ≡ bit b k) → a ≡ b
same_bits a b e = omega (arith, more_bits a b (λ k h. sym (e k) ∙ h), more_bits b a (λ k h. e k ∙ h))
