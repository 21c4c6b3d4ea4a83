-- A signed number by its sign. Assumes nothing.
use mathlib.Core.Path.{◌≡◌, refl}
use mathlib.Core.Bool.{true, false}
use Prim.Native.Nat.{ℕ, ◌^◌, ◌<◌}
use native.Mathlib.Omega.{arith}
use lib.IntN.{ℤ, pos, negsuc}
use lib.Signed.{lt_z}
use borrow.Author.Tests.{ltb-true}
use mir.Syntax.{w64}
use mir.Val.{to_z, of_z, SFits}
use mir.ValLaws.{to_z-of_z}

-- a signed local holds bits: what is read back from them
abbrev held : ℤ → ℤ
held z = to_z w64 (of_z w64 z)

pub record Negative (z : ℤ) : Type 0 where
  pub n : ℕ
  pub is : z ≡ negsuc n
  pub small : n < 2 ^ 63

pub record Positive (z : ℤ) : Type 0 where
  pub n : ℕ
  pub is : z ≡ pos n
  pub small : n < 2 ^ 63

module _ (z : ℤ) (f : SFits w64 z) where
  pub negative : lt_z (held z) (pos 0) ≡ true → Negative z
  negative e = by z f (rw (to_z-of_z w64 z f) at e)
    where
      by : (z : ℤ) → SFits w64 z → lt_z z (pos 0) ≡ true → Negative z
      by (pos n) f e = absurd (omega (arith, ltb-true n 0 e))
      by (negsuc n) f e = record { n = n; is = refl; small = f.sfits }

  pub positive : lt_z (held z) (pos 0) ≡ false → Positive z
  positive e = by z f (rw (to_z-of_z w64 z f) at e)
    where
      by : (z : ℤ) → SFits w64 z → lt_z z (pos 0) ≡ false → Positive z
      by (pos n) f e = record { n = n; is = refl; small = f.sfits }
      by (negsuc n) f e = absurd (let z : ◌≡◌ {A = ℕ} 0 1 = cc in omega arith)
