-- How many digits a number has, one at a time; they hold it, no fewer do, and no u64 has more than 20. Assumes nothing.
use mathlib.Core.Path.{◌≡◌, refl, ap}
use mathlib.Core.Bool.{Bool, true, false, cond}
use Prim.Native.Nat.{ℕ, zero, suc, ◌*◌, ◌/◌, ◌^◌, ◌≤◌, ◌<◌}
use native.Mathlib.Nat.{pow-suc, pow-le-pow_right, lt_of_lt_of_le}
use native.Mathlib.Omega.{arith}
use lib.Dec.{ltb, lit≤}
use borrow.Author.Tests.{lt-ltb, le-ltb, ltb-true, ltb-false}
use Rattle.printing.specs.Decimal.{digits_within, digit_count_spec, natural_room}

-- any bound that is large enough gives the same count
enough : (f g n : ℕ) → n ≤ f → n ≤ g → digits_within f n ≡ digits_within g n
unfolding digits_within
enough zero zero n p q = refl
enough zero (suc g) n p q = let s : n < 10 = omega arith in rw (lt-ltb n 10 s)
enough (suc f) zero n p q = let s : n < 10 = omega arith in rw (lt-ltb n 10 s)
enough (suc f) (suc g) n p q = go (ltb n 10) refl (enough f g (n / 10))
  where
    go : (b : Bool) → ltb n 10 ≡ b → (n / 10 ≤ f → n / 10 ≤ g → digits_within f (n / 10) ≡ digits_within g (n / 10))
        → cond b 1 (suc (digits_within f (n / 10))) ≡ cond b 1 (suc (digits_within g (n / 10)))
    go true e same = refl
    go false e same = let t : 10 ≤ n = ltb-false n 10 e in ap suc (same (omega arith) (omega arith))

pub one_digit : (n : ℕ) → n < 10 → digit_count_spec n ≡ 1
unfolding digit_count_spec digits_within
one_digit zero h = refl
one_digit (suc n) h = rw (lt-ltb (suc n) 10 h)

pub more_digits : (n : ℕ) → 10 ≤ n → digit_count_spec n ≡ suc (digit_count_spec (n / 10))
unfolding digit_count_spec digits_within
more_digits zero h = absurd (omega arith)
more_digits (suc n) h = rw (le-ltb (suc n) 10 h) (ap suc (enough n (suc n / 10) (suc n / 10) (omega arith) (omega arith)))

holds_within : (f n : ℕ) → n ≤ f → n < 10 ^ digits_within f n
unfolding digits_within
holds_within zero n h = omega arith
holds_within (suc f) n h = go (ltb n 10) refl (holds_within f (n / 10))
  where
    go : (b : Bool) → ltb n 10 ≡ b → (n / 10 ≤ f → n / 10 < 10 ^ digits_within f (n / 10)) → n < 10 ^ cond b 1 (suc (digits_within f (n / 10)))
    go true e below = let s : n < 10 = ltb-true n 10 e in omega arith
    go false e below =
        let t : 10 ≤ n = ltb-false n 10 e in
        let i : n / 10 < 10 ^ digits_within f (n / 10) = below (omega arith) in
        rw pow-suc (omega arith)

pub count_holds : (n : ℕ) → n < 10 ^ digit_count_spec n
unfolding digit_count_spec
count_holds n = holds_within n n (omega arith)

few_within : (k f n : ℕ) → n < 10 ^ suc k → digits_within f n ≤ suc k
unfolding digits_within
few_within k zero n h = omega arith
few_within k (suc f) n h = go k (ltb n 10) refl (λ j. few_within j f (n / 10)) h
  where
    go : (k : ℕ) (b : Bool) → ltb n 10 ≡ b → ((j : ℕ) → n / 10 < 10 ^ suc j → digits_within f (n / 10) ≤ suc j)
        → n < 10 ^ suc k → cond b 1 (suc (digits_within f (n / 10))) ≤ suc k
    go k true e few h = omega arith
    go zero false e few h = let t : 10 ≤ n = ltb-false n 10 e in absurd (omega arith)
    go (suc k) false e few h =
        let t : n < 10 ^ suc k * 10 = rw pow-suc at h in
        let s : digits_within f (n / 10) ≤ suc k = few k (omega arith) in
        omega arith

at_least_one : (f n : ℕ) → 1 ≤ digits_within f n
unfolding digits_within
at_least_one zero n = omega arith
at_least_one (suc f) n = go (ltb n 10)
  where
    go : (b : Bool) → 1 ≤ cond b 1 (suc (digits_within f (n / 10)))
    go true = omega arith
    go false = omega arith

pub count_some : (n : ℕ) → 1 ≤ digit_count_spec n
unfolding digit_count_spec
count_some n = at_least_one n n

-- n has k + 1 digits: it is below the next power of ten, and not below its own unless it has one digit
pub record Sized (n k : ℕ) : Type 0 where
  pub below : n < 10 ^ suc k
  pub above : 0 < k → 10 ^ k ≤ n

pub count_sized : (n k : ℕ) → digit_count_spec n ≡ suc k → Sized n k
unfolding digit_count_spec
count_sized n k e = record { below = rw e at (count_holds n); above = above k e }
  where
    above : (k : ℕ) → digits_within n n ≡ suc k → 0 < k → 10 ^ k ≤ n
    above zero e p = absurd (omega arith)
    above (suc k) e p = go (ltb n (10 ^ suc k)) refl
      where
        go : (b : Bool) → ltb n (10 ^ suc k) ≡ b → 10 ^ suc k ≤ n
        go true q = absurd (omega (arith, few_within k n n (ltb-true _ _ q)))
        go false q = ltb-false _ _ q

-- and no other count is so
pub sized_count : (n k : ℕ) → Sized n k → digit_count_spec n ≡ suc k
unfolding digit_count_spec
sized_count n k s = omega (arith, few_within k n n s.below, least k s.above)
  where
    least : (k : ℕ) → (0 < k → 10 ^ k ≤ n) → k < digits_within n n
    least zero above = count_some n
    least (suc k) above = go (ltb (suc k) (digits_within n n)) refl
      where
        go : (b : Bool) → ltb (suc k) (digits_within n n) ≡ b → suc k < digits_within n n
        go true q = ltb-true _ _ q
        go false q =
            let up : 10 ^ digits_within n n ≤ 10 ^ suc k = pow-le-pow_right {n = 10} (omega arith) {i = digits_within n n} {j = suc k} (ltb-false _ _ q) in
            absurd (omega (arith, up, above (omega arith), holds_within n n (omega arith)))

pub count_few : (n : ℕ) → n < 2 ^ 64 → digit_count_spec n ≤ natural_room
unfolding digit_count_spec
count_few n h = few_within 19 n n (lt_of_lt_of_le h (lit≤ tt))
