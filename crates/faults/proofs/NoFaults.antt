-- "1922 set means balanced and 1923 is a count: neither is a fault". Whatever they hold, the sum is the same. Assumes nothing.
use mathlib.Core.Path.{◌≡◌, refl}
use mathlib.Core.Bool.{Bool, not}
use mathlib.Core.List.{List, [], ◌∷◌}
use Prim.Native.Nat.{ℕ, ◌-◌}
use mir.Facts.{and_yes}
use borrow.Author.Tests.{eq-eqb}
use lib.Dec.{T, eqb}
use lib.ListN.{set}
use lib.Seq.{get_or-set_other}
use Rattle.faults.specs.Rows.{first_row, told_row, counted, level_rows, one_bit_rows, emergency_rows, fire_row}
use Rattle.faults.specs.Counts.{level_of_spec, stands_at_spec, how_many_spec, all_of, any_of, highest_of_spec}
use Rattle.faults.specs.Sum.{is_emergency_spec, sum_of}

-- the row's count stands at another place than i
abbrev away : ℕ → ℕ → Bool
away i row = not (eqb (row - first_row) i)

module _ (counts : List ℕ) (i v : ℕ) where
  split : (row : ℕ) (rs : List ℕ) → T (all_of (away i) (row ∷ rs)) → T (away i row) × T (all_of (away i) rs)
  unfolding all_of
  split row rs h = and_yes (away i row) (all_of (away i) rs) h

  same_count : (row : ℕ) → T (away i row) → level_of_spec (set counts i v) row ≡ level_of_spec counts row
  same_count row h = get_or-set_other counts i (row - first_row) v 0 (λ e. rw (eq-eqb (row - first_row) i e) at h)

  same_many : (wanted : ℕ) (rs : List ℕ) → T (all_of (away i) rs) → how_many_spec (stands_at_spec (set counts i v) wanted) rs ≡ how_many_spec (stands_at_spec counts wanted) rs
  unfolding how_many_spec all_of
  same_many wanted [] h = refl
  same_many wanted (row ∷ rs) h = simp (same_count row (split row rs h).0, same_many wanted rs (split row rs h).1)

  same_highest : (rs : List ℕ) → T (all_of (away i) rs) → highest_of_spec (level_of_spec (set counts i v)) rs ≡ highest_of_spec (level_of_spec counts) rs
  unfolding highest_of_spec all_of
  same_highest [] h = refl
  same_highest (row ∷ rs) h = simp (same_count row (split row rs h).0, same_highest rs (split row rs h).1)

  same_any : (wanted : ℕ) (rs : List ℕ) → T (all_of (away i) rs) → any_of (stands_at_spec (set counts i v) wanted) rs ≡ any_of (stands_at_spec counts wanted) rs
  unfolding any_of all_of
  same_any wanted [] h = refl
  same_any wanted (row ∷ rs) h = simp (same_count row (split row rs h).0, same_any wanted rs (split row rs h).1)

  -- where none of the rows that are summed stands at place i, what stands there is of no account
  same_sum : T (all_of (away i) level_rows) → T (all_of (away i) one_bit_rows) → T (all_of (away i) emergency_rows) → T (away i fire_row) → T (away i told_row)
      → sum_of (set counts i v) ≡ sum_of counts
  unfolding is_emergency_spec
  same_sum l o e f a =
      simp (same_highest level_rows l, same_many 1 level_rows l, same_many 2 level_rows l, same_many 3 level_rows l, same_many 1 one_bit_rows o, same_any 3 emergency_rows e, same_count fire_row f, same_count told_row a)

pub balanced_is_no_fault : (counts : List ℕ) (v : ℕ) → sum_of (set counts (1922 - first_row) v) ≡ sum_of counts
unfolding all_of counted
balanced_is_no_fault counts v = same_sum counts 21 v tt tt tt tt tt

pub number_is_no_fault : (counts : List ℕ) (v : ℕ) → sum_of (set counts (1923 - first_row) v) ≡ sum_of counts
unfolding all_of counted
number_is_no_fault counts v = same_sum counts 22 v tt tt tt tt tt
