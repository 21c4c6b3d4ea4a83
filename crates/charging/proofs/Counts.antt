-- A test of a count, and the count: the one says that the other is there and is this number. Assumes nothing.
use Rattle.std.specs.Prelude.{Option, None, Some}
use mathlib.Core.Path.{◌≡◌, refl, ap, ◌∙◌}
use mathlib.Core.Bool.{true, false, false≢true}
use Prim.Native.Nat.{ℕ}
use borrow.Author.Tests.{eqb-true, eq-eqb, ne_eqb}
use Rattle.charging.specs.Observed.{is_count}

pub is_this : (count : Option ℕ) (n : ℕ) → is_count count n ≡ true → count ≡ Some n
is_this None n e = absurd (false≢true e)
is_this (Some k) n e = ap Some (eqb-true k n e)

pub this_is : (count : Option ℕ) (n : ℕ) → count ≡ Some n → is_count count n ≡ true
this_is count n e = ap (λ (c : Option ℕ). is_count c n) e ∙ eq-eqb n n refl

pub not_this : (count : Option ℕ) (n : ℕ) → (count ≡ Some n → ⊥) → is_count count n ≡ false
not_this None n h = refl
not_this (Some k) n h = ne_eqb k n (λ e. h (ap Some e))
