-- A count put into a word: it is read back, every field beside it stays, and the bits of all ones are ones.
-- Assumes nothing.
use mathlib.Core.Path.{◌≡◌, sym, ap, ◌∙◌, subst, subst⁻¹}
use mathlib.Core.Logic.{◌⊎◌, inl, inr}
use Prim.Native.Nat.{ℕ, ◌+◌, ◌-◌, ◌*◌, ◌/◌, ◌%◌, ◌^◌, ◌≤◌, ◌<◌}
use native.Mathlib.Nat.{add_assoc, add_comm, mul_assoc, mod-lt, add-mul}
use native.Mathlib.Omega.{arith}
use lib.Pow.{pow-add, pow_pos, shr-shr, shr_lt, shl-shr, mod-pow-add, field, mod-mod-pow, high, low, split, ones_split, ones_lt}
use lib.Arith.{digits_lt}
use Rattle.bits.specs.Word.{field_of, placed}

-- ---- a field

-- what lies past a field of b bits is shifted out of a number of b + k
shifted_out : (x b k : ℕ) → x % 2 ^ (b + k) * 2 ^ k % 2 ^ (b + k) / 2 ^ k ≡ x % 2 ^ b
shifted_out x b k =
    field (x % 2 ^ (b + k) * 2 ^ k) b k
    ∙ ap (λ (m : ℕ). m % 2 ^ b) (shl-shr (x % 2 ^ (b + k)) k)
    ∙ ap (λ (m : ℕ). x % 2 ^ m % 2 ^ b) (add_comm b k)
    ∙ mod-mod-pow x k b

-- a field as what a shift and a cut leave
pub field_is : (w s n : ℕ) → n ≡ w / 2 ^ s % 2 ^ 32 → n ≡ field_of w s 32
unfolding field_of
field_is w s n e = e

-- the lowest bits of a field are the field of so many
pub low_field : (w s b : ℕ) → b ≤ 32 → field_of w s 32 % 2 ^ b ≡ field_of w s b
unfolding field_of
low_field w s b h = let whole : 32 ≡ (32 - b) + b = omega (arith, h) in ap (λ (m : ℕ). w / 2 ^ s % 2 ^ m % 2 ^ b) whole ∙ mod-mod-pow (w / 2 ^ s) (32 - b) b

pub taken_out : (w s b n : ℕ) → b ≤ 32 → n ≡ field_of w s 32 → n * 2 ^ (32 - b) % 2 ^ 32 / 2 ^ (32 - b) ≡ field_of w s b
unfolding field_of
taken_out w s b n h e =
    let whole : 32 ≡ b + (32 - b) = omega (arith, h) in
    ap (λ (m : ℕ). m * 2 ^ (32 - b) % 2 ^ 32 / 2 ^ (32 - b)) e
    ∙ ap (λ (m : ℕ). w / 2 ^ s % 2 ^ m * 2 ^ (32 - b) % 2 ^ m / 2 ^ (32 - b)) whole
    ∙ shifted_out (w / 2 ^ s) b (32 - b)

pub field_lt : (w s b : ℕ) → field_of w s b < 2 ^ b
unfolding field_of
field_lt w s b = mod-lt (w / 2 ^ s) (pow_pos b)

-- ---- a placement

-- a number is what lies above a field, the field, and what lies below it
parts : (w s b : ℕ) → w ≡ w / 2 ^ (b + s) * 2 ^ (b + s) + (w / 2 ^ s % 2 ^ b * 2 ^ s + w % 2 ^ s)
parts w s b = sym (ap (λ (m : ℕ). w / 2 ^ (b + s) * 2 ^ (b + s) + m) (sym (mod-pow-add w b s)) ∙ split w (b + s))

swap : (w H F L X : ℕ) → w ≡ H + (F + L) → w - F + X ≡ H + (X + L)
swap w H F L X e = omega arith

placed_is : (w s b v : ℕ) → placed w s b v ≡ w / 2 ^ (b + s) * 2 ^ (b + s) + (v * 2 ^ s + w % 2 ^ s)
unfolding placed field_of
placed_is w s b v = swap w (w / 2 ^ (b + s) * 2 ^ (b + s)) (w / 2 ^ s % 2 ^ b * 2 ^ s) (w % 2 ^ s) (v * 2 ^ s) (parts w s b)

-- the parts a placement does not touch, and the one that it puts
module _ (w s b v : ℕ) (small : v < 2 ^ b) where
  rest_lt : v * 2 ^ s + w % 2 ^ s < 2 ^ (b + s)
  rest_lt = rw pow-add (digits_lt small (mod-lt w (pow_pos s)))

  placed_high : placed w s b v / 2 ^ (b + s) ≡ w / 2 ^ (b + s)
  placed_high = ap (λ (m : ℕ). m / 2 ^ (b + s)) (placed_is w s b v) ∙ high (w / 2 ^ (b + s)) (b + s) rest_lt

  regroup : placed w s b v ≡ (w / 2 ^ (b + s) * 2 ^ b + v) * 2 ^ s + w % 2 ^ s
  regroup =
      placed_is w s b v
      ∙ ap (λ (m : ℕ). w / 2 ^ (b + s) * m + (v * 2 ^ s + w % 2 ^ s)) (pow-add 2 b s)
      ∙ sym (add_assoc (w / 2 ^ (b + s) * (2 ^ b * 2 ^ s)) (v * 2 ^ s) (w % 2 ^ s))
      ∙ ap (λ (m : ℕ). m + v * 2 ^ s + w % 2 ^ s) (sym (mul_assoc (w / 2 ^ (b + s)) (2 ^ b) (2 ^ s)))
      ∙ ap (λ (m : ℕ). m + w % 2 ^ s) (sym (add-mul (w / 2 ^ (b + s) * 2 ^ b) v (2 ^ s)))

  placed_low : placed w s b v % 2 ^ s ≡ w % 2 ^ s
  placed_low = ap (λ (m : ℕ). m % 2 ^ s) regroup ∙ low (w / 2 ^ (b + s) * 2 ^ b + v) s (mod-lt w (pow_pos s))

  -- what is placed is read back
  pub read_back : field_of (placed w s b v) s b ≡ v
  unfolding field_of
  read_back =
      ap (λ (m : ℕ). m / 2 ^ s % 2 ^ b) regroup
      ∙ ap (λ (m : ℕ). m % 2 ^ b) (high (w / 2 ^ (b + s) * 2 ^ b + v) s (mod-lt w (pow_pos s)))
      ∙ low (w / 2 ^ (b + s)) b small

  above : (t c : ℕ) → b + s ≤ t → field_of (placed w s b v) t c ≡ field_of w t c
  unfolding field_of
  above t c h =
      let d = t - (b + s) in
      let e : t ≡ b + s + d = omega arith in
      let at : (n : ℕ) → n / 2 ^ t ≡ n / 2 ^ (b + s) / 2 ^ d = λ n. ap (λ (k : ℕ). n / 2 ^ k) e ∙ sym (shr-shr n (b + s) d) in
      ap (λ (m : ℕ). m % 2 ^ c) (at (placed w s b v) ∙ ap (λ (m : ℕ). m / 2 ^ d) placed_high ∙ sym (at w))

  below : (t c : ℕ) → t + c ≤ s → field_of (placed w s b v) t c ≡ field_of w t c
  unfolding field_of
  below t c h =
      let d = s - (c + t) in
      let e : s ≡ d + (c + t) = omega arith in
      let at : (n : ℕ) → n / 2 ^ t % 2 ^ c ≡ n % 2 ^ s % 2 ^ (c + t) / 2 ^ t = λ n. sym (field n c t) ∙ ap (λ (m : ℕ). m / 2 ^ t) (sym (ap (λ (k : ℕ). n % 2 ^ k % 2 ^ (c + t)) e ∙ mod-mod-pow n d (c + t))) in
      at (placed w s b v) ∙ ap (λ (m : ℕ). m % 2 ^ (c + t) / 2 ^ t) placed_low ∙ sym (at w)

  -- and a field beside it stays
  pub beside : (t c : ℕ) → (s + b ≤ t) ⊎ (t + c ≤ s) → field_of (placed w s b v) t c ≡ field_of w t c
  beside t c (inl h) = above t c (omega arith)
  beside t c (inr h) = below t c h

  -- a placement within k bits keeps a number within k bits
  pub placed_lt : (k : ℕ) → s + b ≤ k → w < 2 ^ k → placed w s b v < 2 ^ k
  placed_lt k h hw =
      let d = k - (b + s) in
      let e : k ≡ d + (b + s) = omega arith in
      let hi : w / 2 ^ (b + s) < 2 ^ d = shr_lt d (b + s) (subst (λ (m : ℕ). w < 2 ^ m) e hw) in
      rw (placed_is w s b v) (subst⁻¹ (λ (m : ℕ). w / 2 ^ (b + s) * 2 ^ (b + s) + (v * 2 ^ s + w % 2 ^ s) < m) (ap (λ (m : ℕ). 2 ^ m) e ∙ pow-add 2 d (b + s)) (digits_lt hi rest_lt))

-- ---- what the code's shifts are

pub field_le : (w s b : ℕ) → field_of w s b * 2 ^ s ≤ w
unfolding field_of
field_le w s b = let e = parts w s b in omega arith

-- ---- all ones
pub ones : (t c : ℕ) → t + c ≤ 64 → field_of (2 ^ 64 - 1) t c ≡ 2 ^ c - 1
unfolding field_of
ones t c h =
    let d = 64 - (c + t) in
    let e : 64 ≡ d + (c + t) = omega arith in
    let first : (2 ^ 64 - 1) % 2 ^ (c + t) ≡ 2 ^ (c + t) - 1 = ap (λ (k : ℕ). (2 ^ k - 1) % 2 ^ (c + t)) e ∙ ap (λ (m : ℕ). m % 2 ^ (c + t)) (ones_split d (c + t)) ∙ low (2 ^ d - 1) (c + t) (ones_lt (c + t)) in
    sym (field (2 ^ 64 - 1) c t) ∙ ap (λ (m : ℕ). m / 2 ^ t) (first ∙ ones_split c t) ∙ high (2 ^ c - 1) t (ones_lt t)
