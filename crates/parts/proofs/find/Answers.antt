-- `parts::find` meets its contract: the byte stands in none of the pairs passed. Assumes nothing.
use mathlib.Core.Path.{◌≡◌, refl}
use mathlib.Core.Bool.{Bool, true, false}
use mathlib.Core.List.{List}
use Prim.Native.Nat.{ℕ, ◌+◌, ◌<◌}
use native.Mathlib.Omega.{arith}
use lib.Dec.{eqb}
use lib.ListN.{get_or}
use borrow.Author.Tests.{eqb-true, eqb-false}
use Rattle.parts.proofs.Seek.{index_is}
use Rattle.parts.proofs.find.Goals as goal
use Rattle.parts.proofs.find.Goals.{else-last-s-via-then-last-s+else-s-last, else-last-s-via-else-last-s}

-- nor at this place, so nowhere before the next
one_more : (s : List ℕ) (b i : ℕ) → ((k : ℕ) → k < i → get_or s k 0 ≡ b → ⊥) → (get_or s i 0 ≡ b → ⊥) → (k : ℕ) → k < i + 1 → get_or s k 0 ≡ b → ⊥
one_more s b i n m k h = go (eqb k i) refl
  where
    go : (q : Bool) → eqb k i ≡ q → get_or s k 0 ≡ b → ⊥
    go true q e = m (rw (eqb-true k i q) at e)
    go false q e = let d : k ≡ i → ⊥ = eqb-false k i q in n k (omega arith) e

pub returns-then-s-i : goal.returns-then-s-i
returns-then-s-i c = index_is _ _ _ (omega arith) c.loop-pair.invariant (λ h. c.if-s-i.true)

pub returns-then-s-i-2 : goal.returns-then-s-i-2
returns-then-s-i-2 c = index_is _ _ _ (omega arith) (one_more _ _ _ c.loop-pair.invariant c.if-s-i.false) (λ h. c.if-s-i-2.true)

pub returns-then-s-last : goal.returns-then-s-last
returns-then-s-last c = index_is _ _ _ (omega arith) (λ k h. c.loop-pair.invariant k (omega arith)) (λ h. c.if-s-last.true)

pub returns : goal.returns
returns c =
    elim c.else-last-s.branch [
      | else-last-s-via-then-last-s+else-s-last w ↦ index_is _ _ _ (omega arith) (λ k h. one_more _ _ _ (λ j g. c.loop-pair.invariant j (omega arith)) w.if-s-last.false k (omega arith)) (λ h. absurd (omega arith))
      | else-last-s-via-else-last-s w ↦ index_is _ _ _ (omega arith) (λ k h. c.loop-pair.invariant k (omega (arith, w.if-last-s.false))) (λ h. absurd (omega arith))
    ]
