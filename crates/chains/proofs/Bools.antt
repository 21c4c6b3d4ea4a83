-- Laws of bools, and of what they tell. Assumes nothing.
use mathlib.Core.Path.{◌≡◌, refl, sym}
use mathlib.Core.Logic.{◌⊎◌, inl, inr}
use mathlib.Core.Bool.{Bool, true, false, ◌||◌, true≢false, false≢true}
use Rattle.chains.specs.Tells.{Tells}

pub or_cases : (a b : Bool) → a || b ≡ true → (a ≡ true) ⊎ (b ≡ true)
or_cases true b e = inl refl
or_cases false b e = inr e

pub or_left : (a b : Bool) → a ≡ true → a || b ≡ true
or_left a b e = rw e refl

pub or_right : (a b : Bool) → b ≡ true → a || b ≡ true
or_right true b e = refl
or_right false b e = e

-- two tests are the same where each being true makes the other so
pub same_test : (a b : Bool) → (a ≡ true → b ≡ true) → (b ≡ true → a ≡ true) → a ≡ b
same_test true b f g = sym (f refl)
same_test false true f g = g refl
same_test false false f g = refl

-- what an answer that tells says
pub told_yes : {P : Type 0} (r : Bool) → Tells P r → r ≡ true → P
told_yes true t e = t
told_yes false t e = absurd (false≢true e)

pub told_of : {P : Type 0} (r : Bool) → Tells P r → P → r ≡ true
told_of true t p = refl
told_of false t p = absurd (t p)

pub told_no : {P : Type 0} (r : Bool) → Tells P r → r ≡ false → P → ⊥
told_no true t e = absurd (true≢false e)
told_no false t e = t

-- a test that is true just where P holds tells P
pub test_tells : {P : Type 0} (r : Bool) → (r ≡ true → P) → (P → r ≡ true) → Tells P r
test_tells true f g = f refl
test_tells false f g = λ p. false≢true (g p)

-- two that tell the same are the same
pub told_same : (P : Type 0) (a b : Bool) → Tells P a → Tells P b → a ≡ b
told_same P true true s t = refl
told_same P true false s t = absurd (t s)
told_same P false true s t = absurd (s t)
told_same P false false s t = refl
