-- A signal of the catalogue has a number that a line can write. Assumes nothing.
use mathlib.Core.Path.{◌≡◌, refl}
use mathlib.Core.Bool.{Bool, true, false, cond, ◌&&◌, and-eq-true_iff}
use mathlib.Core.List.{List, [], ◌∷◌}
use mathlib.Core.Option.{Option}
use Prim.Native.Nat.{ℕ, ◌<◌}
use native.Mathlib.Omega.{arith}
use lib.Dec.{ltb, eqb}
use borrow.Author.Tests.{ltb-true, eqb-true}
use Rattle.rows.specs.declared.Row.{Row}
use Rattle.rows.specs.Rows.{rows}
use Rattle.catalogue.specs.Find.{row_in, row_of, bits_in_spec, bits_of_spec}

-- every number of the rows is below 2,000
small : List Row → Bool
small [] = true
small (r ∷ rs) = ltb r.number 2000 && small rs

found_small : (n : ℕ) (rs : List Row) → small rs ≡ true → (bits_in_spec (row_in n rs) ≡ 0 → ⊥) → n < 2000
unfolding small
found_small n [] s h = absurd (h refl)
found_small n (r ∷ rs) s h = go (eqb r.number n) refl h (found_small n rs ((and-eq-true_iff (ltb r.number 2000) (small rs)).0 s).1)
  where
    here : eqb r.number n ≡ true → n < 2000
    here e = omega (arith, eqb-true r.number n e, ltb-true r.number 2000 ((and-eq-true_iff (ltb r.number 2000) (small rs)).0 s).0)

    go : (b : Bool) → eqb r.number n ≡ b → (◌≡◌ {A = ℕ} (bits_in_spec (cond b (Option.some r) (row_in n rs))) 0 → ⊥) → ((bits_in_spec (row_in n rs) ≡ 0 → ⊥) → n < 2000) → n < 2000
    go true e h later = here e
    go false e h later = later h

rows_small : small rows ≡ true
unfolding rows small
rows_small = refl

pub known_small : (n : ℕ) → (bits_of_spec n ≡ 0 → ⊥) → n < 2000
unfolding bits_of_spec row_of
known_small n h = found_small n rows rows_small h
