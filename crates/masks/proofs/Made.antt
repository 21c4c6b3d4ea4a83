-- There is a mask for every test of numbers below 64. Assumes nothing.
use mathlib.Core.Path.{◌≡◌, refl, sym, ap, ◌∙◌}
use mathlib.Core.Logic.{◌⊎◌, inl, inr, ⊎_elim}
use mathlib.Core.Bool.{Bool, true, false, cond, ◌||◌, true≢false, or-true}
use Prim.Native.Nat.{ℕ, zero, suc, ◌*◌, ◌%◌, ◌^◌, ◌<◌, ◌≤◌}
use native.Mathlib.Nat.{eq-or-lt_of_le, le_of_suc-le-suc}
use native.Mathlib.Omega.{arith}
use lib.Bits.{bit_or}
use lib.Dec.{eqb}
use borrow.Author.Tests.{eqb-true, eq-eqb}
use Rattle.masks.specs.Bit.{width, bit}
use Rattle.masks.proofs.Bits.{bit_zero, bit_with}

-- the numbers below w that pass
abbrev pub mask_of : (ℕ → Bool) → ℕ → ℕ
mask_of P zero = 0
mask_of P (suc w) = cond (P w) (bit_or (mask_of P w) (1 * 2 ^ w % 2 ^ 64)) (mask_of P w)

pub mask_passes : (P : ℕ → Bool) (w : ℕ) → w ≤ width → (k : ℕ) → bit (mask_of P w) k ≡ true → P k ≡ true
mask_passes P zero h k e = absurd (true≢false (sym e ∙ bit_zero k))
mask_passes P (suc w) h k e = go (P w) refl e (mask_passes P w (omega arith) k)
  where
    either : (a b : Bool) → a || b ≡ true → (a ≡ true) ⊎ (b ≡ true)
    either true b e = inl refl
    either false b e = inr e

    go : (b : Bool) → P w ≡ b → bit (cond b (bit_or (mask_of P w) (1 * 2 ^ w % 2 ^ 64)) (mask_of P w)) k ≡ true → (bit (mask_of P w) k ≡ true → P k ≡ true) → P k ≡ true
    go true f e ih = ⊎_elim ih (λ z. ap P (eqb-true k w z) ∙ f) (either (bit (mask_of P w) k) (eqb k w) (sym (bit_with (mask_of P w) w k h) ∙ e))
    go false f e ih = ih e

pub passes_mask : (P : ℕ → Bool) (w : ℕ) → w ≤ width → (k : ℕ) → k < w → P k ≡ true → bit (mask_of P w) k ≡ true
passes_mask P zero h k l e = absurd (omega arith)
passes_mask P (suc w) h k l e = go (P w) refl (eq-or-lt_of_le l) (λ b. passes_mask P w (omega arith) k b e)
  where
    go : (b : Bool) → P w ≡ b → (suc k ≡ suc w) ⊎ (suc k < suc w) → (k < w → bit (mask_of P w) k ≡ true) → bit (cond b (bit_or (mask_of P w) (1 * 2 ^ w % 2 ^ 64)) (mask_of P w)) k ≡ true
    go true f (inl z) ih = bit_with (mask_of P w) w k h ∙ rw (eq-eqb k w (omega arith)) (or-true (bit (mask_of P w) k))
    go true f (inr b) ih = bit_with (mask_of P w) w k h ∙ rw (ih (le_of_suc-le-suc b)) refl
    go false f (inl z) ih = absurd (true≢false (sym e ∙ ap P (omega arith) ∙ f))
    go false f (inr b) ih = ih (le_of_suc-le-suc b)
