-- Rounding keeps thousandths apart: of two whole numbers of thousandths, none above 2 ^ 42, the higher one has the higher double. Their
-- readings are a thousandth apart at least, and neighbouring doubles there less than a millionth. Assumes nothing.
use mathlib.Core.Path.{◌≡◌, sym, ap, ◌∙◌, subst, subst⁻¹}
use mathlib.Core.Bool.{Bool, true, false, true≢false}
use Prim.Native.Nat.{ℕ, zero, suc, ◌+◌, ◌*◌, ◌-◌, ◌/◌, ◌%◌, ◌^◌, ◌≤◌, ◌<◌, compare, Ordering, suc-le-suc}
use native.Mathlib.Nat.{mul_assoc, mul_comm, mul_right_comm, mul-pos, suc-mul, mul-le-mul_right, mul-lt-mul_of_pos_right, lt_of_mul-lt-mul_right, div-add-mod', mod-lt, div-lt_iff_lt-mul, lt_of_lt_of_le, zero-mul}
use native.Mathlib.Omega.{arith}
use lib.Dec.{T, lit<, ltb→lt, lt→ltb}
use lib.IntN.{ℤ, pos, negsuc, nat_abs}
use lib.Signed.{◌<ℤ◌}
use lib.Pow.{pow-add, pow_pos, pow_mono}
use lib.Ieee.{Float, nan, inf, fin, binary64, round, size, nearest, low, lt, up, down}
use lib.Ieee.Digits.{size-le}
use lib.Ieee.Exact.{HasValue, units_val}
use lib.Ieee.Fits.{down_pos, nearest-le, round_is}
use lib.Ieee.Nearest.{nearest-ge}
use Rattle.doubles.specs.Doubles.{nearest_to}

-- 2 ^ 42
abbrev pub limit : ℕ
limit = 4398046511104

-- ---- a quotient and its nearest whole number

module _ (n u : ℕ) (p : 0 < u) (o : Ordering) where
  near_above : nearest (n / u) o * u ≤ n + u
  near_above = omega (arith, mul-le-mul_right u (nearest-le (n / u) o), suc-mul (n / u) u, div-add-mod' n u)

  near_below : n < nearest (n / u) o * u + u
  near_below = omega (arith, mul-le-mul_right u (nearest-ge (n / u) o), div-add-mod' n u, mod-lt n p)

-- ---- the sums, apart from the powers of two, which are long numbers

few_units : (w p x : ℕ) → w ≡ 8589934592 * p → 0 < p → x ≤ limit * p → x < w * 1000
few_units w p x e h k = omega (arith, e, h, k)

at_most : (g q n d m : ℕ) → g ≡ q → q ≤ n + 1000 * d → d ≤ m → g ≤ n + 1000 * m
at_most g q n d m e h k = omega (arith, e, h, k)

at_least : (g q n d m : ℕ) → g ≡ q → n < q + 1000 * d → d ≤ m → n < g + 1000 * m
at_least g q n d m e h k = omega (arith, e, h, k)

further : (x y g k p m : ℕ) → p ≡ 1048576 * m → 0 < m → x + p ≤ y → g * 1000 ≤ x + 1000 * m → y < k * 1000 + 1000 * m → g < k
further x y g k p m e h l above beneath = omega (arith, e, h, l, above, beneath)

not_many : (g x p m : ℕ) → g * 1000 ≤ x + 1000 * m → x ≤ limit * p → p ≡ 1048576 * m → 0 < m → g < 8796093022208 * p
not_many g x p m a b e h = in_steps (less e h) (without a) b
  where
    less : p ≡ 1048576 * m → 0 < m → m < p
    less e h = omega (arith, e, h)

    without : g * 1000 ≤ x + 1000 * m → g ≤ x + 1000 * m
    without a = omega (arith, a)

    in_steps : m < p → g ≤ x + 1000 * m → x ≤ limit * p → g < 8796093022208 * p
    in_steps l a b = omega (arith, l, a, b)

some_of : (x c y : ℕ) → x * c ≡ y → 0 < y → 0 < x
some_of zero c y e h = absurd (omega (arith, e, h, zero-mul c))
some_of (suc x) c y e h = omega arith

-- ---- in units of the least double

-- one, and the most units that a double of at most 2 ^ 42 thousandths drops
one : ℕ
one = 2 ^ low binary64

most : ℕ
most = 2 ^ 1054

one_is : one ≡ 1048576 * most
unfolding one most
one_is = pow-add 2 20 1054

one_pos : 0 < one
unfolding one
one_pos = pow_pos (low binary64)

high_is : 2 ^ 1117 ≡ 8796093022208 * one
unfolding one
high_is = pow-add 2 43 1074

wide_is : 2 ^ 1107 ≡ 8589934592 * one
unfolding one
wide_is = pow-add 2 33 1074

further_apart : (a b : ℕ) → a < b → a * one + one ≤ b * one
further_apart a b h = subst (λ (x : ℕ). x ≤ b * one) (suc-mul a one) (mul-le-mul_right one h)

most_pos : 0 < most
unfolding most
most_pos = pow_pos 1054

module _ (a : ℕ) where
  drops : ℕ
  drops = size (a * one / 1000) - 53

  step : ℕ
  unfolding drops
  step = 1000 * 2 ^ drops

  quot : ℕ
  quot = nearest (a * one / step) (compare (a * one % step * 2) step)

  -- the double, in those units
  grain : ℕ
  grain = quot * 2 ^ drops

  step_pos : 0 < step
  unfolding step
  step_pos = mul-pos (lit< tt) (pow_pos drops)

  grains : grain * 1000 ≡ quot * step
  unfolding grain step
  grains = mul_assoc quot (2 ^ drops) 1000 ∙ ap (λ (x : ℕ). quot * x) (mul_comm (2 ^ drops) 1000)

  module _ (h : a ≤ limit) where
    few_digits : size (a * one / 1000) ≤ 1107
    few_digits = size-le (a * one / 1000) 1107 ((div-lt_iff_lt-mul (lit< tt)).1 (few_units (2 ^ 1107) one (a * one) wide_is one_pos (mul-le-mul_right one h)))

    few_dropped : 2 ^ drops ≤ most
    unfolding drops most
    few_dropped = pow_mono {i = size (a * one / 1000) - 53} {j = 1054} (omega (arith, few_digits))

    -- how far the double is off, at most
    above : grain * 1000 ≤ a * one + 1000 * most
    unfolding step quot one
    above = at_most (grain * 1000) (quot * step) (a * one) (2 ^ drops) most grains (near_above (a * one) step step_pos (compare (a * one % step * 2) step)) few_dropped

    beneath : a * one < grain * 1000 + 1000 * most
    unfolding step quot one
    beneath = at_least (grain * 1000) (quot * step) (a * one) (2 ^ drops) most grains (near_below (a * one) step step_pos (compare (a * one % step * 2) step)) few_dropped

    under : grain < 2 ^ (low binary64 + 1024)
    under =
        lt_of_lt_of_le (subst⁻¹ (λ (x : ℕ). grain < x) high_is (not_many grain (a * one) one most above (mul-le-mul_right one h) one_is most_pos))
        (pow_mono {i = 1117} {j = low binary64 + 1024} (omega arith))

    -- the double has just this value
    has_grain : (s : Bool) → HasValue (round binary64 s a 1000) s grain (2 ^ low binary64)
    unfolding one drops step quot grain
    has_grain s = subst⁻¹ (λ (x : Float). HasValue x s grain (2 ^ low binary64)) (round_is binary64 s a 1000) (units_val binary64 s quot drops under)

-- and two of them are in order
apart : (a b : ℕ) → a < b → b ≤ limit → grain a < grain b
apart a b l h = further (a * one) (b * one) (grain a) (grain b) one most one_is most_pos (further_apart a b l) (above a (omega arith)) (beneath b h)

-- ---- the order of two doubles that have values

-- x / de is a / c and y / dd is b / c
crossed : (x y de dd a b c : ℕ) → 0 < de → 0 < dd → x * c ≡ a * de → y * c ≡ b * dd → a < b → x * dd < y * de
crossed x y de dd a b c D D' p q h =
    let l : x * dd * c ≡ a * (de * dd) = mul_right_comm x dd c ∙ ap (λ (z : ℕ). z * dd) p ∙ mul_assoc a de dd in
    let r : y * de * c ≡ b * (de * dd) = mul_right_comm y de c ∙ ap (λ (z : ℕ). z * de) q ∙ mul_assoc b dd de ∙ ap (λ (z : ℕ). b * z) (mul_comm dd de) in
    lt_of_mul-lt-mul_right c (subst⁻¹ (λ (z : ℕ). z < y * de * c) l (subst⁻¹ (λ (z : ℕ). a * (de * dd) < z) r (mul-lt-mul_of_pos_right h (mul-pos D D'))))

module _ (c a b : ℕ) where
  both_above : (x y : Float) → HasValue x false a c → HasValue y false b c → a < b → T (lt x y)
  unfolding lt
  both_above nan y p q h = absurd p
  both_above (inf s) y p q h = absurd p
  both_above (fin true m e) y p q h = absurd (true≢false p.0)
  both_above (fin false m e) nan p q h = absurd q
  both_above (fin false m e) (inf t) p q h = absurd q
  both_above (fin false m e) (fin true n d) p q h = absurd (true≢false q.0)
  both_above (fin false m e) (fin false n d) p q h = lt→ltb _ _ (crossed (m * up e) (n * up d) (down e) (down d) a b c (down_pos e) (down_pos d) p.1 q.1 h)

  both_below : (x y : Float) → HasValue x true a c → HasValue y true b c → b < a → T (lt x y)
  unfolding lt
  both_below nan y p q h = absurd p
  both_below (inf s) y p q h = absurd p
  both_below (fin false m e) y p q h = absurd (true≢false (sym p.0))
  both_below (fin true m e) nan p q h = absurd q
  both_below (fin true m e) (inf t) p q h = absurd q
  both_below (fin true m e) (fin false n d) p q h = absurd (true≢false (sym q.0))
  both_below (fin true m e) (fin true n d) p q h = lt→ltb _ _ (crossed (n * up d) (m * up e) (down d) (down e) b a c (down_pos d) (down_pos e) q.1 p.1 h)

  across : (x y : Float) → HasValue x true a c → HasValue y false b c → 0 < a → T (lt x y)
  unfolding lt
  across nan y p q h = absurd p
  across (inf s) y p q h = absurd p
  across (fin false m e) y p q h = absurd (true≢false (sym p.0))
  across (fin true m e) nan p q h = absurd q
  across (fin true m e) (inf t) p q h = absurd q
  across (fin true m e) (fin true n d) p q h = absurd (true≢false q.0)
  across (fin true m e) (fin false n d) p q h =
      let some : 0 * down d < m * up e * down d = mul-lt-mul_of_pos_right (some_of (m * up e) c (a * down e) p.1 (mul-pos h (down_pos e))) (down_pos d) in
      lt→ltb 0 (m * up e * down d + n * up d * down e) (omega (arith, some, zero-mul (down d)))

-- ---- of two whole numbers of thousandths the higher one has the higher double

pub spaced : (z z' : ℤ) → nat_abs z ≤ limit → nat_abs z' ≤ limit → z <ℤ z' → T (lt (nearest_to z 1000) (nearest_to z' 1000))
unfolding nearest_to
spaced (pos n) (pos m) h k l = both_above (2 ^ low binary64) (grain n) (grain m) _ _ (has_grain n h false) (has_grain m k false) (apart n m (ltb→lt n m l.lt) k)
spaced (pos n) (negsuc m) h k l = absurd l.lt
spaced (negsuc n) (pos m) h k l =
    across (2 ^ low binary64) (grain (suc n)) (grain m) _ _ (has_grain (suc n) h true) (has_grain m k false) (omega (arith, apart 0 (suc n) (omega arith) h))
spaced (negsuc n) (negsuc m) h k l =
    both_below (2 ^ low binary64) (grain (suc n)) (grain (suc m)) _ _ (has_grain (suc n) h true) (has_grain (suc m) k true) (apart (suc m) (suc n) (suc-le-suc (ltb→lt m n l.lt)) h)
