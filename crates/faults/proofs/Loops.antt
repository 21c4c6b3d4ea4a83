-- A loop over the rows `row` to `to`: what it does with one row, and what is left at the end. Assumes nothing.
use Prim.Native.Nat.{ℕ, suc, ◌+◌, ◌-◌, ◌≤◌, ◌<◌, max}
use mathlib.Core.Path.{◌≡◌, sym, ◌∙◌}
use mathlib.Core.Bool.{Bool, cond, ◌&&◌, and-true, and_assoc}
use mathlib.Core.List.{[], ◌∷◌}
use native.Mathlib.Omega.{arith}
use native.Mathlib.Numerals.{add-one}
use Rattle.faults.specs.Rows.{rows_between, counted}
use Rattle.faults.specs.Counts.{how_many_spec, all_of, highest_of_spec}

rows_more : (row to : ℕ) → row ≤ to → rows_between row to ≡ row ∷ rows_between (row + 1) to
unfolding counted
rows_more row to h = rw (first, rest, add-one row)
  where
    first : suc to - row ≡ suc (to - row)
    first = omega arith

    rest : suc to - (row + 1) ≡ to - row
    rest = omega arith

rows_none : (row to : ℕ) → to < row → rows_between row to ≡ []
unfolding counted
rows_none row to h = rw none
  where
    none : suc to - row ≡ 0
    none = omega arith

module _ (row to : ℕ) (h : row ≤ to) where
  pub many_next : (test : ℕ → Bool) (n r total : ℕ) → n + how_many_spec test (rows_between row to) ≡ total → r ≡ cond (test row) 1 0
      → n + r + how_many_spec test (rows_between (row + 1) to) ≡ total
  unfolding how_many_spec
  many_next test n r total e f = omega (arith, rw (rows_more row to h) at e)

  pub highest_next : (count : ℕ → ℕ) (n l r total : ℕ) → max n (highest_of_spec count (rows_between row to)) ≡ total → l ≡ count row → r ≡ max n l
      → max r (highest_of_spec count (rows_between (row + 1) to)) ≡ total
  unfolding highest_of_spec
  highest_next count n l r total e f g = omega (arith, rw (rows_more row to h) at e)

  pub all_next : (test : ℕ → Bool) (b r total : Bool) → b && all_of test (rows_between row to) ≡ total → r ≡ test row
      → (b && r) && all_of test (rows_between (row + 1) to) ≡ total
  unfolding all_of
  all_next test b r total e f = rw f (and_assoc b (test row) (all_of test (rows_between (row + 1) to)) ∙ (rw (rows_more row to h) at e))

module _ (row to : ℕ) (h : to < row) where
  pub many_end : (test : ℕ → Bool) (n total : ℕ) → n + how_many_spec test (rows_between row to) ≡ total → n ≡ total
  unfolding how_many_spec
  many_end test n total e = omega (arith, rw (rows_none row to h) at e)

  pub highest_end : (count : ℕ → ℕ) (n total : ℕ) → max n (highest_of_spec count (rows_between row to)) ≡ total → n ≡ total
  unfolding highest_of_spec
  highest_end count n total e = omega (arith, rw (rows_none row to h) at e)

  pub all_end : (test : ℕ → Bool) (b total : Bool) → b && all_of test (rows_between row to) ≡ total → b ≡ total
  unfolding all_of
  all_end test b total e = sym (and-true b) ∙ (rw (rows_none row to h) at e)
