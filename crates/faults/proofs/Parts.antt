-- Rows laid end to end: what is told of each part tells of the whole. Assumes nothing.
use Prim.Native.Nat.{ℕ, ◌+◌, max}
use mathlib.Core.Path.{◌≡◌, refl, sym, ◌∙◌, ap}
use mathlib.Core.Bool.{Bool, ◌&&◌, and_assoc}
use mathlib.Core.List.{List, [], ◌∷◌, ◌++◌}
use native.Mathlib.Omega.{arith}
use Rattle.faults.specs.Counts.{how_many_spec, all_of, highest_of_spec}

pub many_parts : (test : ℕ → Bool) (a b : List ℕ) → how_many_spec test (a ++ b) ≡ how_many_spec test a + how_many_spec test b
unfolding how_many_spec
many_parts test [] b = omega arith
many_parts test (row ∷ a) b = omega (arith, many_parts test a b)

pub highest_parts : (count : ℕ → ℕ) (a b : List ℕ) → highest_of_spec count (a ++ b) ≡ max (highest_of_spec count a) (highest_of_spec count b)
unfolding highest_of_spec
highest_parts count [] b = omega arith
highest_parts count (row ∷ a) b = omega (arith, highest_parts count a b)

pub all_parts : (test : ℕ → Bool) (a b : List ℕ) → all_of test (a ++ b) ≡ all_of test a && all_of test b
unfolding all_of
all_parts test [] b = refl
all_parts test (row ∷ a) b = ap (λ (x : Bool). test row && x) (all_parts test a b) ∙ sym (and_assoc (test row) (all_of test a) (all_of test b))
