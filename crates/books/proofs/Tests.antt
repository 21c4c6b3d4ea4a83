-- Tests taken apart and put together. Assumes nothing.
use mathlib.Core.Path.{◌≡◌, refl}
use mathlib.Core.Bool.{Bool, true, false, cond, ◌||◌, not}
use mathlib.Mathlib.Data.Bool.Basic.{or-eq-false-eq-eq-false-and-eq-false}
use Prim.Native.Nat.{ℕ, suc}
use native.Mathlib.Omega.{arith}
use borrow.Author.Tests.{not-true}

pub both_false : (a b : Bool) → a || b ≡ false → (a ≡ false) × (b ≡ false)
both_false a b = (or-eq-false-eq-eq-false-and-eq-false a b).0

pub neither : (a b : Bool) → not (a || b) ≡ true → (a ≡ false) × (b ≡ false)
neither a b e = both_false a b (not-true (a || b) e)

pub nor : (a b : Bool) → a ≡ false → b ≡ false → a || b ≡ false
nor a b e f = (or-eq-false-eq-eq-false-and-eq-false a b).1 (e, f)

-- a refusal that does not come: its test fails, and what stands after it is 0
pub not_refused : (t : Bool) (n m : ℕ) → cond t (suc n) m ≡ 0 → (t ≡ false) × (m ≡ 0)
not_refused true n m e = let z : suc n ≡ 0 = e in absurd (omega arith)
not_refused false n m e = (refl, e)

pub no_refusal : (t : Bool) (n m : ℕ) → t ≡ false → m ≡ 0 → cond t n m ≡ 0
no_refusal t n m e f = rw (e, f) refl
