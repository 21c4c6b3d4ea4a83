-- How the operations on masks act on their bits. Assumes nothing.
use mathlib.Core.Path.{◌≡◌, refl, sym, ap, ◌∙◌}
use Prim.Native.Nat.{ℕ, zero, suc, ◌*◌, ◌/◌, ◌%◌, ◌^◌, ◌<◌, max, min}
use mathlib.Core.Bool.{Bool, true, false, ◌||◌, ◌&&◌, true≢false, and-eq-true_iff}
use native.Mathlib.Nat.{pow-succ', div-div-eq-div-mul, mod-eq_of_lt, one-mul, div-one}
use native.Mathlib.Omega.{arith}
use lib.Bits.{bit_or, bit_and, or_step, and_step, or_shr, and_shr, shifted_half, shifted_even}
use lib.Pow.{pow-lt}
use lib.Dec.{eqb, eqb-zero-suc, eqb-suc-zero, eqb-suc-suc}
use borrow.Author.Tests.{eqb-true, eqb-false, not-true, not-false}
use Rattle.masks.specs.Bit.{bit, meeting}

-- what holds of 0 and 1 holds of any two numbers below 2
of_bits_law : (P : ℕ → ℕ → Type 0) → P 0 0 → P 0 1 → P 1 0 → P 1 1 → (x y : ℕ) → x < 2 → y < 2 → P x y
of_bits_law P a b c d zero zero h k = a
of_bits_law P a b c d zero (suc zero) h k = b
of_bits_law P a b c d (suc zero) zero h k = c
of_bits_law P a b c d (suc zero) (suc zero) h k = d
of_bits_law P a b c d zero (suc (suc y)) h k = absurd (omega arith)
of_bits_law P a b c d (suc zero) (suc (suc y)) h k = absurd (omega arith)
of_bits_law P a b c d (suc (suc x)) y h k = absurd (omega arith)

or_low : (a b : ℕ) → bit_or a b % 2 ≡ max (a % 2) (b % 2)
or_low a b = omega (arith, or_step a b)

pub bit_or_law : (a b k : ℕ) → bit (bit_or a b) k ≡ bit a k || bit b k
unfolding bit
bit_or_law a b k =
    rw (or_shr, or_low)
    (of_bits_law (λ x y. eqb (max x y) 1 ≡ eqb x 1 || eqb y 1) refl refl refl refl (a / 2 ^ k % 2) (b / 2 ^ k % 2) (omega arith) (omega arith))

pub bit_suc : (m k : ℕ) → bit m (suc k) ≡ bit (m / 2) k
unfolding bit
bit_suc m k = rw (pow-succ', ← div-div-eq-div-mul)

pub bit_zero : (k : ℕ) → bit 0 k ≡ false
unfolding bit
bit_zero zero = refl
bit_zero (suc k) = bit_suc 0 k ∙ bit_zero k

bit_one : (k j : ℕ) → bit (1 * 2 ^ k) j ≡ eqb j k
unfolding bit
bit_one zero zero = refl
bit_one zero (suc j) = bit_suc 1 j ∙ bit_zero j ∙ sym (eqb-suc-zero j)
bit_one (suc k) zero = ap (λ (n : ℕ). eqb (n % 2) 1) (div-one (1 * 2 ^ suc k)) ∙ ap (λ (n : ℕ). eqb n 1) (shifted_even 1 k) ∙ sym (eqb-zero-suc k)
bit_one (suc k) (suc j) = bit_suc (1 * 2 ^ suc k) j ∙ ap (λ (n : ℕ). bit n j) (shifted_half 1 k) ∙ bit_one k j ∙ sym (eqb-suc-suc j k)

pub bit_with : (m k j : ℕ) → k < 64 → bit (bit_or m (1 * 2 ^ k % 2 ^ 64)) j ≡ bit m j || eqb j k
bit_with m k j l =
    let h : 1 * 2 ^ k < 2 ^ 64 = rw one-mul (pow-lt l) in
    ap (λ (n : ℕ). bit (bit_or m n) j) (mod-eq_of_lt h) ∙ rw (bit_or_law, bit_one)

and_low : (a b : ℕ) → bit_and a b % 2 ≡ min (a % 2) (b % 2)
and_low a b = omega (arith, and_step a b)

bit_and_law : (a b k : ℕ) → bit (bit_and a b) k ≡ bit a k && bit b k
unfolding bit
bit_and_law a b k =
    rw (and_shr, and_low)
    (of_bits_law (λ x y. eqb (min x y) 1 ≡ eqb x 1 && eqb y 1) refl refl refl refl (a / 2 ^ k % 2) (b / 2 ^ k % 2) (omega arith) (omega arith))

-- a number that is not 0 has a bit
some_bit : (w n : ℕ) → n < 2 ^ w → (n ≡ 0 → ⊥) → (k : ℕ) × (k < w) × (bit n k ≡ true)
unfolding bit
some_bit zero n h nz = absurd (nz (omega arith))
some_bit (suc w) n h nz = go (eqb (n % 2) 1) refl (λ z. some_bit w (n / 2) (omega (arith, pow-succ' 2 w)) z)
  where
    go : (b : Bool) → eqb (n % 2) 1 ≡ b → ((n / 2 ≡ 0 → ⊥) → (k : ℕ) × (k < w) × (bit (n / 2) k ≡ true)) → (k : ℕ) × (k < suc w) × (bit n k ≡ true)
    go true e rest = (0, omega arith, ap (λ (m : ℕ). eqb (m % 2) 1) (div-one n) ∙ e)
    go false e rest =
        let odd = eqb-false (n % 2) 1 e in
        let r = rest (λ z. nz (omega arith)) in
        (suc r.0, omega (arith, r.1), bit_suc n r.0 ∙ r.2)

pub below_pow : (n : ℕ) → n < 2 ^ n
below_pow zero = omega arith
below_pow (suc n) = omega (arith, below_pow n, pow-succ' 2 n)

-- masks that meet have a bit in common
pub meeting_some : (a b : ℕ) → meeting a b ≡ true → (k : ℕ) × (bit a k ≡ true) × (bit b k ≡ true)
unfolding meeting
meeting_some a b e =
    let r = some_bit (bit_and a b) (bit_and a b) (below_pow (bit_and a b)) (eqb-false (bit_and a b) 0 (not-true (eqb (bit_and a b) 0) e)) in
    let t = (and-eq-true_iff (bit a r.0) (bit b r.0)).0 (sym (bit_and_law a b r.0) ∙ r.2) in
    (r.0, t.0, t.1)

-- and those that don't have none
pub meeting_none : (a b : ℕ) → meeting a b ≡ false → (k : ℕ) → bit a k ≡ true → bit b k ≡ true → ⊥
unfolding meeting
meeting_none a b e k x y =
    let z : bit_and a b ≡ 0 = eqb-true (bit_and a b) 0 (not-false (eqb (bit_and a b) 0) e) in
    let both : bit a k && bit b k ≡ true = (and-eq-true_iff (bit a k) (bit b k)).1 (x, y) in
    true≢false (sym both ∙ sym (bit_and_law a b k) ∙ ap (λ (n : ℕ). bit n k) z ∙ bit_zero k)
