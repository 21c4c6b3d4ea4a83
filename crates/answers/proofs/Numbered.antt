-- Every refusal has a number above 0, and no two have the same. Assumes nothing.
use mathlib.Core.Path.{◌≡◌, refl, sym, ap, ◌∙◌}
use mathlib.Core.Bool.{cond}
use Prim.Native.Nat.{ℕ, suc}
use lib.Dec.{eqb}
use Rattle.answers.specs.declared.Refusal.{Refusal}
use Rattle.answers.specs.declared.Refusal.TheVariants as refusal
use Rattle.answers.specs.Numbers.{number}

pub above_0 : (why : Refusal) → (n : ℕ) × (number why ≡ suc n)
above_0 refusal.TooLong = (0, refl)
above_0 refusal.IllFormed = (1, refl)
above_0 refusal.OverLimit = (2, refl)
above_0 refusal.BeforeAnyMessage = (3, refl)
above_0 refusal.MessageRepeated = (4, refl)
above_0 refusal.SignalRepeated = (5, refl)
above_0 refusal.Misplaced = (6, refl)
above_0 refusal.BitsMeet = (7, refl)
above_0 refusal.Full = (8, refl)
above_0 refusal.ClosedChain = (9, refl)
above_0 refusal.TwoChains = (10, refl)

-- the refusal of a number
refusal_at : ℕ → Refusal
refusal_at n =
    cond (eqb n 1) refusal.TooLong
    (cond (eqb n 2) refusal.IllFormed
    (cond (eqb n 3) refusal.OverLimit
    (cond (eqb n 4) refusal.BeforeAnyMessage
    (cond (eqb n 5) refusal.MessageRepeated
    (cond (eqb n 6) refusal.SignalRepeated
    (cond (eqb n 7) refusal.Misplaced
    (cond (eqb n 8) refusal.BitsMeet
    (cond (eqb n 9) refusal.Full
    (cond (eqb n 10) refusal.ClosedChain refusal.TwoChains)))))))))

at_number : (why : Refusal) → refusal_at (number why) ≡ why
unfolding refusal_at
at_number refusal.TooLong = refl
at_number refusal.IllFormed = refl
at_number refusal.OverLimit = refl
at_number refusal.BeforeAnyMessage = refl
at_number refusal.MessageRepeated = refl
at_number refusal.SignalRepeated = refl
at_number refusal.Misplaced = refl
at_number refusal.BitsMeet = refl
at_number refusal.Full = refl
at_number refusal.ClosedChain = refl
at_number refusal.TwoChains = refl

pub number_once : (r s : Refusal) → number r ≡ number s → r ≡ s
number_once r s e = sym (at_number r) ∙ ap refusal_at e ∙ at_number s
