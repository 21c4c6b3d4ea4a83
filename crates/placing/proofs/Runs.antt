-- The bits of a mask of ones from one bit on. Assumes nothing.
use mathlib.Core.Path.{◌≡◌, refl, sym, ap, ◌∙◌, subst}
use mathlib.Core.Bool.{Bool, true, false, ◌&&◌}
use Prim.Native.Nat.{ℕ, zero, suc, ◌+◌, ◌-◌, ◌*◌, ◌/◌, ◌%◌, ◌^◌, ◌≤◌, ◌<◌}
use native.Mathlib.Nat.{mul-one, div-one, pow-succ', suc-add, zero-add}
use native.Mathlib.Omega.{arith}
use lib.Bits.{shifted_half, shifted_even}
use lib.Pow.{pow_pos, shl_exact, ones_lt, ones_split, high}
use lib.Dec.{eqb, leb, ltb}
use borrow.Author.Tests.{lt-ltb, le-ltb, le-leb, lt-leb, ltb-true, ltb-false}
use Rattle.masks.specs.Bit.{width, bit}
use Rattle.masks.proofs.Bits.{bit_zero, bit_suc}
use Rattle.books.specs.Belonging.{in_run}

-- 2 ^ (b + 1) - 1 is odd, and half of it is 2 ^ b - 1
half : (b : ℕ) → (2 ^ suc b - 1) / 2 ≡ 2 ^ b - 1
half b = rw pow-succ' (omega (arith, pow_pos b))

odd : (b : ℕ) → (2 ^ suc b - 1) % 2 ≡ 1
odd b = rw pow-succ' (omega (arith, pow_pos b))

-- bit k of 2 ^ b - 1
ones : (b k : ℕ) → bit (2 ^ b - 1) k ≡ ltb k b
unfolding bit
ones zero k = bit_zero k ∙ sym (le-ltb k 0 (omega arith))
ones (suc b) zero = ap (λ (n : ℕ). eqb (n % 2) 1) (div-one (2 ^ suc b - 1)) ∙ ap (λ (n : ℕ). eqb n 1) (odd b) ∙ sym (lt-ltb 0 (suc b) (omega arith))
ones (suc b) (suc k) = bit_suc (2 ^ suc b - 1) k ∙ ap (λ (n : ℕ). bit n k) (half b) ∙ ones b k ∙ go (ltb k b) refl
  where
    go : (t : Bool) → ltb k b ≡ t → ltb k b ≡ ltb (suc k) (suc b)
    go true e = e ∙ sym (lt-ltb (suc k) (suc b) (omega (arith, ltb-true k b e)))
    go false e = e ∙ sym (le-ltb (suc k) (suc b) (omega (arith, ltb-false k b e)))

-- bit k of x * 2 ^ a
shifted_low : (x a k : ℕ) → k < a → bit (x * 2 ^ a) k ≡ false
unfolding bit
shifted_low x zero k h = absurd (omega arith)
shifted_low x (suc a) zero h = ap (λ (n : ℕ). eqb (n % 2) 1) (div-one (x * 2 ^ suc a)) ∙ ap (λ (n : ℕ). eqb n 1) (shifted_even x a)
shifted_low x (suc a) (suc k) h = bit_suc (x * 2 ^ suc a) k ∙ ap (λ (n : ℕ). bit n k) (shifted_half x a) ∙ shifted_low x a k (omega arith)

shifted_at : (x a k : ℕ) → bit (x * 2 ^ a) (a + k) ≡ bit x k
unfolding bit
shifted_at x zero k = ap (λ (n : ℕ). bit n (zero + k)) (mul-one x) ∙ ap (λ (n : ℕ). bit x n) (zero-add k)
shifted_at x (suc a) k =
    ap (λ (n : ℕ). bit (x * 2 ^ suc a) n) (suc-add a k)
    ∙ bit_suc (x * 2 ^ suc a) (a + k)
    ∙ ap (λ (n : ℕ). bit n (a + k)) (shifted_half x a)
    ∙ shifted_at x a k

-- of the ones of a word, b are left
ones_left : (b : ℕ) → b ≤ width → (2 ^ 64 - 1) / 2 ^ (64 - b) ≡ 2 ^ b - 1
ones_left b h =
    let e : 64 ≡ b + (64 - b) = omega (arith, h) in
    ap (λ (n : ℕ). (2 ^ n - 1) / 2 ^ (64 - b)) e ∙ ap (λ (n : ℕ). n / 2 ^ (64 - b)) (ones_split b (64 - b)) ∙ high (2 ^ b - 1) (64 - b) (ones_lt (64 - b))

-- b ones from bit s on
abbrev pub run_of : ℕ → ℕ → ℕ
run_of s b = (2 ^ 64 - 1) / 2 ^ (64 - b) * 2 ^ s % 2 ^ 64

pub run_bits : (s b : ℕ) → s + b ≤ width → (k : ℕ) → bit (run_of s b) k ≡ in_run s b k
unfolding in_run
run_bits s b g k = ap (λ (n : ℕ). bit n k) value ∙ at (ltb k s) refl
  where
    value : run_of s b ≡ (2 ^ b - 1) * 2 ^ s
    value = ap (λ (n : ℕ). n * 2 ^ s % 2 ^ 64) (ones_left b (omega (arith, g))) ∙ shl_exact b s 64 (ones_lt b) (omega arith)

    past : (t : Bool) → ltb (k - s) b ≡ t → s ≤ k → ltb (k - s) b ≡ ltb k (s + b)
    past true e l = e ∙ sym (lt-ltb k (s + b) (omega (arith, ltb-true (k - s) b e)))
    past false e l = e ∙ sym (le-ltb k (s + b) (omega (arith, ltb-false (k - s) b e)))

    at : (t : Bool) → ltb k s ≡ t → bit ((2 ^ b - 1) * 2 ^ s) k ≡ leb s k && ltb k (s + b)
    at true e = let l = ltb-true k s e in shifted_low (2 ^ b - 1) s k l ∙ rw (lt-leb s k l)
    at false e =
        let l = ltb-false k s e in
        let d : s + (k - s) ≡ k = omega arith in
        subst (λ (n : ℕ). bit ((2 ^ b - 1) * 2 ^ s) n ≡ leb s k && ltb k (s + b)) d
        (shifted_at (2 ^ b - 1) s (k - s) ∙ ones b (k - s) ∙ past (ltb (k - s) b) refl l ∙ rw (le-leb s k l))

-- as many as a word has from bit l on
pub run_up_to_bits : (s l : ℕ) → s ≤ l → l < width → (k : ℕ) → bit ((2 ^ 64 - 1) / 2 ^ l * 2 ^ s % 2 ^ 64) k ≡ in_run s (64 - l) k
run_up_to_bits s l h g k =
    let e : l ≡ 64 - (64 - l) = omega (arith, g) in
    ap (λ (n : ℕ). bit ((2 ^ 64 - 1) / 2 ^ n * 2 ^ s % 2 ^ 64) k) e ∙ run_bits s (64 - l) (omega (arith, h, g)) k
