-- Digits one by one, and the bytes that pairs of them write. Assumes nothing.
use mathlib.Core.Path.{◌≡◌, refl, ap, ◌∙◌}
use mathlib.Core.Bool.{Bool, true, false, and-eq-true_iff}
use mathlib.Core.List.{List, [], ◌∷◌}
use Prim.Native.Nat.{ℕ, zero, suc, ◌+◌, ◌*◌, ◌%◌, ◌≤◌, ◌<◌}
use native.Mathlib.Omega.{arith}
use lib.Dec.{ltb}
use lib.ListN.{length, get_or}
use borrow.Author.Tests.{ltb-true}
use Rattle.numerals.specs.Numeral.{digit_value}
use Rattle.parts.specs.Joined.{Lacks, none, more}
use Rattle.frame_lines.specs.Meaning.{all_digits_spec, bytes_in}

module _ (b : ℕ) (t : List ℕ) (e : all_digits_spec (b ∷ t) ≡ true) where
  first_digit : digit_value b < 16
  unfolding all_digits_spec
  first_digit = ltb-true (digit_value b) 16 ((and-eq-true_iff (ltb (digit_value b) 16) (all_digits_spec t)).0 e).0

  other_digits : all_digits_spec t ≡ true
  unfolding all_digits_spec
  other_digits = ((and-eq-true_iff (ltb (digit_value b) 16) (all_digits_spec t)).0 e).1

digit_small : (l : List ℕ) (i : ℕ) → all_digits_spec l ≡ true → i < length l → digit_value (get_or l i 0) < 16
digit_small [] i e h = absurd (omega arith)
digit_small (b ∷ t) zero e h = first_digit b t e
digit_small (b ∷ t) (suc i) e h = digit_small t i (other_digits b t e) (omega arith)

-- a byte that is no digit is not among them
pub no_digit : (l : List ℕ) (i : ℕ) → i < length l → {d : ℕ} → d ≡ digit_value (get_or l i 0) → 16 ≤ d → all_digits_spec l ≡ false
no_digit l i h v t = go (all_digits_spec l) refl
  where
    go : (b : Bool) → all_digits_spec l ≡ b → b ≡ false
    go false e = refl
    go true e = absurd (omega (arith, v, digit_small l i e h))

-- a tab is no digit
no_tab : (b : ℕ) → digit_value b < 16 → b ≡ 9 → ⊥
unfolding digit_value
no_tab b h e = let v : 16 < 16 = rw e at h in omega arith

pub digits_free : (l : List ℕ) → all_digits_spec l ≡ true → Lacks 9 l
digits_free [] e = none
digits_free (b ∷ t) e = more {b = b} {t = t} (no_tab b (first_digit b t e)) (digits_free t (other_digits b t e))

-- the byte that two digits write
pub byte_in : (l : List ℕ) (i : ℕ) → 2 * i + 1 < length l
    → get_or (bytes_in l) i 0 ≡ 16 * digit_value (get_or l (2 * i) 0) + digit_value (get_or l (2 * i + 1) 0)
unfolding bytes_in
byte_in [] i h = absurd (omega arith)
byte_in (a ∷ []) i h = absurd (omega arith)
byte_in (a ∷ b ∷ t) zero h = refl
byte_in (a ∷ b ∷ t) (suc i) h =
    let e : suc (suc (2 * i)) ≡ 2 * suc i = omega arith in
    let f : suc (suc (2 * i + 1)) ≡ 2 * suc i + 1 = omega arith in
    byte_in t i (omega arith)
    ∙ ap (λ (n : ℕ). 16 * digit_value (get_or (a ∷ b ∷ t) n 0) + digit_value (get_or t (2 * i + 1) 0)) e
    ∙ ap (λ (n : ℕ). 16 * digit_value (get_or (a ∷ b ∷ t) (2 * suc i) 0) + digit_value (get_or (a ∷ b ∷ t) n 0)) f

pub length_bytes : (l : List ℕ) → length l % 2 ≡ 0 → 2 * length (bytes_in l) ≡ length l
unfolding bytes_in
length_bytes [] h = refl
length_bytes (a ∷ []) h = absurd (omega arith)
length_bytes (a ∷ b ∷ t) h = omega (arith, length_bytes t (omega arith))

-- every byte is one
pub bytes_small : (l : List ℕ) → all_digits_spec l ≡ true → (k : ℕ) → get_or (bytes_in l) k 0 < 256
unfolding bytes_in
bytes_small [] e k = omega arith
bytes_small (a ∷ []) e k = omega arith
bytes_small (a ∷ b ∷ t) e zero = omega (arith, first_digit a (b ∷ t) e, first_digit b t (other_digits a (b ∷ t) e))
bytes_small (a ∷ b ∷ t) e (suc k) = bytes_small t (other_digits b t (other_digits a (b ∷ t) e)) k
