-- A whole number of at most 2 ^ 53 is a double exactly, so a reading is rounded once; that of a multiple of 1000 not at all.
-- Assumes nothing.
use mathlib.Core.Path.{◌≡◌, refl, ap, ◌∙◌, subst, subst⁻¹}
use mathlib.Core.Bool.{Bool, true, false, cond, not}
use Prim.Native.Nat.{ℕ, zero, suc, ◌+◌, ◌*◌, ◌-◌, ◌/◌, ◌%◌, ◌^◌, ◌≤◌, compare}
use native.Mathlib.Nat.{mul_comm, mul_assoc, mul-one, mul-pos}
use native.Mathlib.Omega.{arith}
use lib.Dec.{T, lit<, ltb, le→leb, lt→ltb}
use lib.IntN.{ℤ, pos, negsuc, nat_abs, neg_ℤ, ◌*ℤ◌}
use lib.Ieee.{Float, nan, inf, fin, binary64, round, div, of_int, of_bits, up, down, unlike, is_nan, odd, units, prec, low, emax, size, nearest, in_float}
use lib.Ieee.Back.{round_whole}
use lib.Ieee.Exact.{HasValue}
use lib.Ieee.Fits.{down_pos}
use lib.Ieee.Scale.{round_same}
use Rattle.rows.specs.Rule.{exact_doubles}
use Rattle.catalogue.specs.declared.Thousandths.{Thousandths}
use Rattle.doubles.specs.Doubles.{double_of, in_units_spec, IsWhole, nearest_to, Small}

-- ---- nothing is lost

-- the machine's own test of a cast
pub cast_fits : (z : ℤ) → nat_abs z ≤ exact_doubles → T (in_float binary64 z)
unfolding in_float
cast_fits (pos n) h = le→leb n (2 ^ 53) h
cast_fits (negsuc n) h = lt→ltb n (2 ^ 53) (omega (arith, h))

pub without_loss : (z : ℤ) → nat_abs z ≤ exact_doubles → IsWhole (double_of z) z
unfolding of_int
without_loss (pos n) h = round_whole binary64 false n h
without_loss (negsuc n) h = round_whole binary64 true (suc n) h

-- ---- 1000

-- 1000.0, as the code has it
abbrev thousand : Float
thousand = fin false 125 (pos 3)

pub as_coded : of_bits binary64 0x408f_4000_0000_0000 ≡ double_of (pos 1000)
unfolding of_bits of_int round
as_coded = refl

is_thousand : double_of (pos 1000) ≡ thousand
unfolding of_int round
is_thousand = refl

-- ---- one rounding

-- a double that is n, with a sign, divided by 1000
divided : (x : Float) (s : Bool) (n : ℕ) → HasValue x s n 1 → div binary64 x thousand ≡ round binary64 s n 1000
unfolding div
divided nan s n v = absurd v
divided (inf t) s n v = absurd v
divided (fin t m e) s n v = go t v.0
  where
    cross : m * up e * 1 * 1000 ≡ n * (1000 * down e)
    cross = ap (λ (x : ℕ). x * 1000) v.1 ∙ mul_assoc n (down e) 1000 ∙ ap (λ (x : ℕ). n * x) (mul_comm (down e) 1000)

    same : (u : Bool) → round binary64 u (m * up e * 1) (1000 * down e) ≡ round binary64 u n 1000
    same u = round_same binary64 u (m * up e * 1) (1000 * down e) n 1000 (mul-pos (lit< tt) (down_pos e)) (lit< tt) cross

    go : (u : Bool) → u ≡ s → round binary64 (unlike u false) (m * up e * 1) (1000 * down e) ≡ round binary64 s n 1000
    go true q = same true ∙ ap (λ (u : Bool). round binary64 u n 1000) q
    go false q = same false ∙ ap (λ (u : Bool). round binary64 u n 1000) q

by_thousand : (z : ℤ) → nat_abs z ≤ exact_doubles → div binary64 (double_of z) thousand ≡ nearest_to z 1000
unfolding nearest_to
by_thousand (pos n) h = divided (double_of (pos n)) false n (without_loss (pos n) h)
by_thousand (negsuc n) h = divided (double_of (negsuc n)) true (suc n) (without_loss (negsuc n) h)

-- the reading is the double nearest to the exact quotient
pub rounded_once : (t : Thousandths) → Small t → in_units_spec t ≡ nearest_to t.0 1000
unfolding in_units_spec
rounded_once t h = ap (div binary64 (double_of t.0)) is_thousand ∙ by_thousand t.0 h

-- ---- multiples of 1000

fewer_neg : (m k : ℕ) → m ≡ suc k * 1000 → nat_abs (neg_ℤ (pos m)) ≤ exact_doubles → suc k ≤ exact_doubles
fewer_neg zero k e h = absurd (omega (arith, e))
fewer_neg (suc n) k e h = omega (arith, e, h)

fewer : (k : ℤ) → nat_abs (k *ℤ pos 1000) ≤ exact_doubles → nat_abs k ≤ exact_doubles
fewer (pos k) h = omega (arith, h)
fewer (negsuc k) h = fewer_neg (suc k * 1000) k refl h

below_zero : (m k : ℕ) → m ≡ suc k * 1000 → nearest_to (neg_ℤ (pos m)) 1000 ≡ double_of (negsuc k)
unfolding nearest_to of_int
below_zero zero k e = absurd (omega (arith, e))
below_zero (suc n) k e = round_same binary64 true (suc n) 1000 (suc k) 1 (lit< tt) (lit< tt) (mul-one (suc n) ∙ e)

whole_nearest : (k : ℤ) → nearest_to (k *ℤ pos 1000) 1000 ≡ double_of k
unfolding nearest_to of_int
whole_nearest (pos k) = round_same binary64 false (k * 1000) 1000 k 1 (lit< tt) (lit< tt) (mul-one (k * 1000))
whole_nearest (negsuc k) = below_zero (suc k * 1000) k refl

-- "Where the thousandths are a multiple of 1000 the result must be that whole number exactly."
pub whole_exact : (t : Thousandths) (k : ℤ) → Small t → t.0 ≡ k *ℤ pos 1000 → IsWhole (in_units_spec t) k
whole_exact t k h e =
    let same : in_units_spec t ≡ double_of k = rounded_once t h ∙ ap (λ (z : ℤ). nearest_to z 1000) e ∙ whole_nearest k in
    subst⁻¹ (λ (x : Float). IsWhole x k) same (without_loss k (fewer k (subst (λ (z : ℤ). nat_abs z ≤ exact_doubles) e h)))

-- ---- the bits

odd_is : (d : ℕ) (s : Bool) (q k l : ℕ) → T (not (is_nan (odd d s q k l)))
unfolding odd is_nan
odd_is d s zero k l = tt
odd_is d s (suc q) k l = tt

units_is : (s : Bool) (q k : ℕ) → T (not (is_nan (units binary64 s q k)))
unfolding units is_nan
units_is s q k = go (ltb (q * 2 ^ k) (2 ^ (low binary64 + suc (emax binary64))))
  where
    go : (t : Bool) → T (not (is_nan (cond t (odd (suc (prec binary64)) s q k (low binary64)) (inf s))))
    go true = odd_is (suc (prec binary64)) s q k (low binary64)
    go false = tt

round_is : (s : Bool) (a b : ℕ) → T (not (is_nan (round binary64 s a b)))
unfolding round
round_is s a b =
    let n = a * 2 ^ low binary64 in
    let k = size (n / b) - prec binary64 in
    let u = b * 2 ^ k in
    units_is s (nearest (n / u) (compare (n % u * 2) u)) k

nearest_is : (z : ℤ) → T (not (is_nan (nearest_to z 1000)))
unfolding nearest_to
nearest_is (pos n) = round_is false n 1000
nearest_is (negsuc n) = round_is true (suc n) 1000

-- no reading is a NaN, so each has one pattern of bits
pub no_nan : (t : Thousandths) → Small t → T (not (is_nan (in_units_spec t)))
no_nan t h = subst⁻¹ (λ (x : Float). T (not (is_nan x))) (rounded_once t h) (nearest_is t.0)
