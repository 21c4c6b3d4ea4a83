-- `parts::find` meets its contract: the byte stands in none of the pairs passed. Assumes nothing.
use mathlib.Core.Path.{◌≡◌}
use Prim.Native.Nat.{ℕ, ◌*◌, ◌<◌}
use lib.ListN.{get_or}
use Rattle.parts.proofs.find.Given as goal

abbrev pub invariant-loop-pair : goal.invariant-loop-pair
invariant-loop-pair l = (k : ℕ) → k < 2 * l.pair → get_or l.s k 0 ≡ l.b → ⊥
