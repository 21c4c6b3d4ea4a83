-- Decimals of 1 to 5 digits and the numbers below 100,000 determine each other. Assumes nothing.
use mathlib.Core.Path.{◌≡◌, refl, sym, ap, ◌∙◌}
use mathlib.Core.Bool.{Bool, true, false, cond}
use mathlib.Core.List.{List, [], ◌∷◌}
use Prim.Native.Nat.{ℕ, zero, suc, ◌+◌, ◌/◌, ◌%◌, ◌^◌, ◌≤◌, ◌<◌}
use native.Mathlib.Nat.{pow-le-pow_right, lt_of_lt_of_le, div-eq_of_lt, le-div_iff_mul-le, div-lt_iff_lt-mul, one-le-pow, one-mul, pow-succ'}
use native.Mathlib.Omega.{arith}
use lib.Dec.{eqb, ltb}
use lib.ListN.{length, get_or}
use borrow.Author.Tests.{eq-eqb, ne_eqb, lt-ltb, le-ltb, ltb-true, ltb-false}
use Rattle.std.specs.Prelude.{Some, None}
use Rattle.numerals.specs.Numeral.{numeral_from, needless_zero, decimal_digits, decimal}
use Rattle.numerals.specs.Written.{digit_byte_spec, digits_of_spec, decimal_width_spec, decimal_limit, decimal_text, DecimalWritten}
use Rattle.numerals.proofs.Digits.{length_digits, numeral_read, NumeralText, numeral_written}

-- n has k + 1 decimal digits: it is below the next power, and not below its own unless it has one digit
pub record Wide (n k : ℕ) : Type 0 where
  pub few : k < 5
  pub below : n < 10 ^ suc k
  pub above : 0 < k → 10 ^ k ≤ n
  pub width : decimal_width_spec n ≡ suc k

width_of : (k n : ℕ) → k < 5 → n < 10 ^ suc k → (0 < k → 10 ^ k ≤ n) → decimal_width_spec n ≡ suc k
unfolding decimal_width_spec
width_of zero n f h l = simp (lt-ltb n 10 h)
width_of (suc zero) n f h l = simp (le-ltb n 10 (l (omega arith)), lt-ltb n 100 h)
width_of (suc (suc zero)) n f h l =
    let b : 100 ≤ n = l (omega arith) in
    simp (le-ltb n 10 (omega arith), le-ltb n 100 b, lt-ltb n 1000 h)
width_of (suc (suc (suc zero))) n f h l =
    let b : 1000 ≤ n = l (omega arith) in
    simp (le-ltb n 10 (omega arith), le-ltb n 100 (omega arith), le-ltb n 1000 b, lt-ltb n 10000 h)
width_of (suc (suc (suc (suc zero)))) n f h l =
    let b : 10000 ≤ n = l (omega arith) in
    simp (le-ltb n 10 (omega arith), le-ltb n 100 (omega arith), le-ltb n 1000 (omega arith), le-ltb n 10000 b)
width_of (suc (suc (suc (suc (suc k))))) n f h l = absurd (omega arith)

wide_of : (k n : ℕ) → k < 5 → n < 10 ^ suc k → (0 < k → 10 ^ k ≤ n) → Wide n k
wide_of k n f h l = record { few = f; below = h; above = l; width = width_of k n f h l }

-- every number below 100,000
pub record SomeWidth (n : ℕ) : Type 0 where
  pub k : ℕ
  pub wide : Wide n k

pub some_width : (n : ℕ) → n < decimal_limit → SomeWidth n
some_width n h = go (ltb n 10) (ltb n 100) (ltb n 1000) (ltb n 10000) refl refl refl refl
  where
    go : (a b c d : Bool) → ltb n 10 ≡ a → ltb n 100 ≡ b → ltb n 1000 ≡ c → ltb n 10000 ≡ d → SomeWidth n
    go true b c d p q r s = record { k = 0; wide = wide_of 0 n (omega arith) (ltb-true _ _ p) (λ z. absurd (omega arith)) }
    go false true c d p q r s = record { k = 1; wide = wide_of 1 n (omega arith) (ltb-true _ _ q) (λ z. ltb-false _ _ p) }
    go false false true d p q r s = record { k = 2; wide = wide_of 2 n (omega arith) (ltb-true _ _ r) (λ z. ltb-false _ _ q) }
    go false false false true p q r s = record { k = 3; wide = wide_of 3 n (omega arith) (ltb-true _ _ s) (λ z. ltb-false _ _ r) }
    go false false false false p q r s = record { k = 4; wide = wide_of 4 n (omega arith) h (λ z. ltb-false _ _ s) }

-- the first digit of more than one is not 0
first : (k n : ℕ) → 10 ^ k ≤ n → n < 10 ^ suc k → eqb (digit_byte_spec (n / 10 ^ k)) 48 ≡ false
unfolding digit_byte_spec
first k n l h =
    let p : 0 < 10 ^ k = one-le-pow k 10 (omega arith) in
    let low : 1 ≤ n / 10 ^ k = (le-div_iff_mul-le p).1 (rw one-mul l) in
    let high : n / 10 ^ k < 10 = (div-lt_iff_lt-mul p).1 (rw pow-succ' at h) in
    rw (lt-ltb _ _ high) (ne_eqb (48 + n / 10 ^ k) 48 (λ e. omega arith))

-- as many digits as a number has are written well
pub written_well : (n k : ℕ) → n < 10 ^ suc k → (0 < k → 10 ^ k ≤ n) → needless_zero (digits_of_spec 10 (suc k) n) ≡ false
unfolding needless_zero digits_of_spec
written_well n zero h l = refl
written_well n (suc k) h l =
    let long : 1 < suc (suc (length (digits_of_spec 10 k (n % 10 ^ suc k % 10 ^ k)))) = omega arith in
    rw (lt-ltb _ _ long) (first (suc k) n (l (omega arith)) h)

pub decimal_read : (n : ℕ) → n < decimal_limit → decimal (decimal_text n) ≡ Some n
unfolding decimal decimal_text
decimal_read n h = go (some_width n h)
  where
    go : SomeWidth n → decimal (digits_of_spec 10 (decimal_width_spec n) n) ≡ Some n
    go s =
        let long : 1 ≤ length (digits_of_spec 10 (suc s.k) n) = omega (arith, length_digits 10 (suc s.k) n) in
        let short : length (digits_of_spec 10 (suc s.k) n) ≤ 5 = omega (arith, length_digits 10 (suc s.k) n, s.wide.few) in
        rw (s.wide.width, le-ltb _ _ long, le-ltb _ _ short, written_well n s.k s.wide.below s.wide.above) (numeral_read 10 (omega arith) (omega arith) (suc s.k) n s.wide.below)

-- a first digit of more than one that is not 0
pub not_less : (b : ℕ) (t : List ℕ) (n : ℕ) → needless_zero (b ∷ t) ≡ false → b ≡ digit_byte_spec (n / 10 ^ length t) → 0 < length t → 10 ^ length t ≤ n
unfolding needless_zero digit_byte_spec
not_less b t n z e h = go (ltb n (10 ^ length t)) refl
  where
    go : (q : Bool) → ltb n (10 ^ length t) ≡ q → 10 ^ length t ≤ n
    go true q =
        let o : 1 < suc (length t) = omega arith in
        let f : b ≡ 48 = e ∙ rw (div-eq_of_lt (ltb-true _ _ q)) in
        let y : true ≡ false = sym (rw (lt-ltb _ _ o, eq-eqb _ _ f)) ∙ z in
        absurd (let x : ◌≡◌ {A = ℕ} 0 1 = cc in omega arith)
    go false q = ltb-false _ _ q

of_wide : (l : List ℕ) (n k : ℕ) → Wide n k → l ≡ digits_of_spec 10 (suc k) n → DecimalWritten l n
unfolding decimal_text
of_wide l n k w e =
    let top : 10 ^ suc k ≤ 10 ^ 5 = pow-le-pow_right {n = 10} (omega arith) {i = suc k} {j = 5} w.few in
    record { small = lt_of_lt_of_le w.below top; text = rw w.width e }

never : {A : Type 0} {n : ℕ} → None ≡ Some n → A
never e = absurd (let z : ◌≡◌ {A = ℕ} 0 1 = cc in omega arith)

from_digits : (b : ℕ) (t : List ℕ) (n : ℕ) → length t < 5 → needless_zero (b ∷ t) ≡ false → NumeralText 10 (b ∷ t) (suc (length t)) n
    → DecimalWritten (b ∷ t) n
unfolding digits_of_spec
from_digits b t n f z w =
    of_wide (b ∷ t) n (length t) (wide_of (length t) n f w.fits (not_less b t n z (ap (λ (l : List ℕ). get_or l 0 0) w.text))) w.text

pub decimal_written : (l : List ℕ) (n : ℕ) → decimal l ≡ Some n → DecimalWritten l n
unfolding decimal
decimal_written [] n e = never e
decimal_written (b ∷ t) n e = go (ltb (suc (length t)) 1) (ltb 5 (suc (length t))) (needless_zero (b ∷ t)) refl refl e
  where
    go : (p q r : Bool) → ltb 5 (suc (length t)) ≡ q → needless_zero (b ∷ t) ≡ r
        → cond p None (cond q None (cond r None (numeral_from 10 0 (b ∷ t)))) ≡ Some n → DecimalWritten (b ∷ t) n
    go true q r f z e = never e
    go false true r f z e = never e
    go false false true f z e = never e
    go false false false f z e =
        let few : suc (length t) ≤ 5 = ltb-false _ _ f in
        from_digits b t n few z (numeral_written 10 (omega arith) (omega arith) (b ∷ t) (suc (length t)) n refl e)

-- no more digits are written than can be read
pub width_few : (n : ℕ) → decimal_width_spec n ≤ decimal_digits
unfolding decimal_width_spec
width_few n = go (ltb n 10) (ltb n 100) (ltb n 1000) (ltb n 10000)
  where
    go : (a b c d : Bool) → cond a 1 (cond b 2 (cond c 3 (cond d 4 5))) ≤ decimal_digits
    go true b c d = omega arith
    go false true c d = omega arith
    go false false true d = omega arith
    go false false false true = omega arith
    go false false false false = omega arith

-- and as many as hold the number
pub width_holds : (n : ℕ) → n < decimal_limit → n < 10 ^ decimal_width_spec n
width_holds n h = let s : SomeWidth n = some_width n h in rw s.wide.width s.wide.below

-- a decimal's length is its width
pub decimal_long : (n : ℕ) → length (decimal_text n) ≡ decimal_width_spec n
unfolding decimal_text
decimal_long n = length_digits 10 (decimal_width_spec n) n

pub length_decimal : (n : ℕ) → n < decimal_limit → length (decimal_text n) ≤ decimal_digits
unfolding decimal_text
length_decimal n h = rw (length_digits 10 (decimal_width_spec n) n) (width_few n)
