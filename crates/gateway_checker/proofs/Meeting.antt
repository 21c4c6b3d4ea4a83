-- Bits beyond a mask, and masks that meet. Assumes nothing.
use mathlib.Core.Path.{◌≡◌, refl, ap}
use mathlib.Core.Bool.{Bool, true, false}
use Prim.Native.Nat.{ℕ, ◌%◌, ◌^◌, ◌<◌, ◌≤◌}
use native.Mathlib.Nat.{div-eq_of_lt}
use native.Mathlib.Omega.{arith}
use lib.Dec.{eqb}
use lib.Pow.{pow_mono}
use Rattle.masks.specs.Bit.{width, bit, meeting}
use Rattle.masks.proofs.Bits.{meeting_some, meeting_none}

pub bit_beyond : (m k : ℕ) → m < 2 ^ width → width ≤ k → bit m k ≡ false
unfolding bit
bit_beyond m k h l = ap (λ (x : ℕ). eqb (x % 2) 1) (div-eq_of_lt {m = 2 ^ k} (omega (arith, h, pow_mono {i = width} {j = k} l)))

pub meets_at : (a b k : ℕ) → bit a k ≡ true → bit b k ≡ true → meeting a b ≡ true
meets_at a b k x y = go (meeting a b) refl
  where
    go : (m : Bool) → meeting a b ≡ m → meeting a b ≡ true
    go true e = e
    go false e = absurd (meeting_none a b e k x y)

pub meets_back : (a b : ℕ) → meeting a b ≡ true → meeting b a ≡ true
meets_back a b e = let r = meeting_some a b e in meets_at b a r.0 r.2 r.1
