-- The place that the code computes is that of the signal's row, which has the number and the bits. Assumes nothing.
use mathlib.Core.Path.{◌≡◌, refl, sym, ap, ◌∙◌, subst}
use mathlib.Core.Bool.{Bool, true, false, cond, ◌&&◌, and-eq-true_iff}
use mathlib.Core.List.{List, [], ◌∷◌, map}
use mathlib.Core.Option.{some}
use Prim.Native.Nat.{ℕ, zero, suc, ◌-◌, ◌≤◌, ◌<◌}
use native.Mathlib.Omega.{arith}
use lib.Arith.{lt_of_le-ne}
use lib.Dec.{eqb, leb, ltb}
use lib.ListN.{length, get_or, length-map}
use borrow.Author.Tests.{eqb-true, eqb-false, ne_eqb, leb-true, le-leb, lt-leb, ltb-true, ltb-false}
use Rattle.std.specs.Prelude.{Option, Some, None}
use Rattle.rows.specs.declared.Row.{Row}
use Rattle.rows.specs.Rows.{rows}
use Rattle.rows.specs.Widths.{widths_of}
use Rattle.catalogue.specs.Find.{row_in, row_of, bits_in_spec, bits_of_spec}
use Rattle.catalogue.specs.Places.{place_in, place_of, no_place_spec, number_limit, hundred, surpluses, bounds, Placed}

-- ---- a test of every number below a limit
all_below : ℕ → (ℕ → Bool) → Bool
all_below zero p = true
all_below (suc k) p = p k && all_below k p

abbrev pub computed : ℕ → ℕ
computed n = cond (leb (get_or bounds (hundred n) 0) (n - get_or surpluses (hundred n) 0)) no_place_spec (n - get_or surpluses (hundred n) 0)

abbrev tested : ℕ → Bool
tested n = leb (get_or surpluses (hundred n) 0) n && (leb (get_or bounds (hundred n) 0) no_place_spec && eqb (computed n) (place_of n))

all_tested : all_below number_limit tested ≡ true
unfolding all_below place_of rows
all_tested = refl

every : (p : ℕ → Bool) (k n : ℕ) → all_below k p ≡ true → n < k → p n ≡ true
unfolding all_below
every p zero n t h = absurd (omega arith)
every p (suc k) n t h =
    let both = (and-eq-true_iff (p k) (all_below k p)).0 t in
    go (eqb n k) refl both.0 (every p k n both.1)
  where
    go : (b : Bool) → eqb n k ≡ b → p k ≡ true → (n < k → p n ≡ true) → p n ≡ true
    go true e at below = ap p (eqb-true n k e) ∙ at
    go false e at below = below (lt_of_le-ne (omega arith) (eqb-false n k e))

module _ (n : ℕ) (h : n < number_limit) where
  first_tested : (leb (get_or surpluses (hundred n) 0) n ≡ true) × (leb (get_or bounds (hundred n) 0) no_place_spec && eqb (computed n) (place_of n) ≡ true)
  first_tested = (and-eq-true_iff (leb (get_or surpluses (hundred n) 0) n) _).0 (every tested number_limit n all_tested h)

  then_tested : (leb (get_or bounds (hundred n) 0) no_place_spec ≡ true) × (eqb (computed n) (place_of n) ≡ true)
  then_tested = (and-eq-true_iff (leb (get_or bounds (hundred n) 0) no_place_spec) _).0 first_tested.1

  pub bound_within : get_or bounds (hundred n) 0 ≤ no_place_spec
  bound_within = leb-true _ _ then_tested.0

  pub computed_place : computed n ≡ place_of n
  computed_place = eqb-true _ _ then_tested.1

-- ---- the numbers are below the limit
all_under : List Row → Bool
all_under [] = true
all_under (r ∷ rs) = ltb r.number number_limit && all_under rs

none_above : (n : ℕ) (rs : List Row) → number_limit ≤ n → all_under rs ≡ true → place_in n rs ≡ length rs
unfolding all_under
none_above n [] h t = refl
none_above n (r ∷ rs) h t =
    let both = (and-eq-true_iff (ltb r.number number_limit) (all_under rs)).0 t in
    let below = ltb-true r.number number_limit both.0 in
    ap (λ (b : Bool). cond b 0 (suc (place_in n rs))) (ne_eqb r.number n (λ e. omega (arith, e))) ∙ ap suc (none_above n rs h both.1)

pub place_above : (n : ℕ) → number_limit ≤ n → place_of n ≡ no_place_spec
unfolding place_of rows all_under
place_above n h = none_above n rows h refl

-- ---- what stands at a place
bits_in : (n : ℕ) (rs : List Row) → get_or (widths_of rs) (place_in n rs) 0 ≡ bits_in_spec (row_in n rs)
bits_in n [] = refl
bits_in n (r ∷ rs) = go (eqb r.number n) (bits_in n rs)
  where
    go : (b : Bool) → get_or (widths_of rs) (place_in n rs) 0 ≡ bits_in_spec (row_in n rs)
        → get_or (widths_of (r ∷ rs)) (cond b 0 (suc (place_in n rs))) 0 ≡ bits_in_spec (cond b (some r) (row_in n rs))
    go true later = refl
    go false later = later

pub bits_there : (n : ℕ) → get_or (widths_of rows) (place_of n) 0 ≡ bits_of_spec n
unfolding place_of bits_of_spec row_of
bits_there n = bits_in n rows

number_in : (n : ℕ) (rs : List Row) → place_in n rs < length rs → get_or (map (λ (r : Row). r.number) rs) (place_in n rs) 0 ≡ n
number_in n [] h = absurd (omega arith)
number_in n (r ∷ rs) h = go (eqb r.number n) refl h (number_in n rs)
  where
    go : (b : Bool) → eqb r.number n ≡ b → cond b 0 (suc (place_in n rs)) < suc (length rs)
        → (place_in n rs < length rs → get_or (map (λ (x : Row). x.number) rs) (place_in n rs) 0 ≡ n)
        → get_or (map (λ (x : Row). x.number) (r ∷ rs)) (cond b 0 (suc (place_in n rs))) 0 ≡ n
    go true e l later = eqb-true _ _ e
    go false e l later = later (omega (arith, l))

pub long : length rows ≡ no_place_spec
unfolding rows
long = refl

number_there : (n : ℕ) → place_of n < no_place_spec → get_or (map (λ (r : Row). r.number) rows) (place_of n) 0 ≡ n
unfolding place_of
number_there n h = number_in n rows (subst (λ (k : ℕ). place_in n rows < k) (sym long) h)

-- a place is that of one number
pub one_number : (n m : ℕ) → place_of n ≡ place_of m → place_of m < no_place_spec → n ≡ m
one_number n m e h =
    let g : place_of n < no_place_spec = omega (arith, e, h) in
    sym (number_there n g) ∙ ap (λ (p : ℕ). get_or (map (λ (r : Row). r.number) rows) p 0) e ∙ number_there m h

-- ---- what the code does with the columns lent to it
module _ (above : List ℕ) (n k : ℕ) (column : above ≡ surpluses) (h : n < number_limit) (at : k ≡ hundred n) where
  module _ (ends : List ℕ) (ends-column : ends ≡ bounds) where
    module _ (bound : ℕ) (b : bound ≡ get_or ends k 0) where
      told : cond (leb bound (n - get_or above k 0)) no_place_spec (n - get_or above k 0) ≡ place_of n
      told = rw (b, column, ends-column, at) (computed_place n h)

      pub past_it : bound ≤ n - get_or above k 0 → place_of n ≡ no_place_spec
      past_it p = sym told ∙ ap (λ (t : Bool). cond t no_place_spec (n - get_or above k 0)) (le-leb bound (n - get_or above k 0) p)

      pub there : n - get_or above k 0 < bound → (n - get_or above k 0 ≡ place_of n) × (n - get_or above k 0 < no_place_spec)
      there p =
          let most : bound ≤ no_place_spec = rw (b, ends-column, at) (bound_within n h) in
          (ap (λ (t : Bool). cond t no_place_spec (n - get_or above k 0)) (sym (lt-leb bound (n - get_or above k 0) p)) ∙ told, omega (arith, p, most))

-- ---- what is found
-- there is one, and it is the only one
most : (n : ℕ) (rs : List Row) → place_in n rs ≤ length rs
most n [] = omega arith
most n (r ∷ rs) = go (eqb r.number n) (most n rs)
  where
    go : (b : Bool) → place_in n rs ≤ length rs → cond b 0 (suc (place_in n rs)) ≤ suc (length rs)
    go true h = omega arith
    go false h = omega (arith, h)

place_most : (n : ℕ) → place_of n ≤ no_place_spec
unfolding place_of
place_most n = subst (λ (k : ℕ). place_in n rows ≤ k) long (most n rows)

pub found_place : (n : ℕ) → (r : Option ℕ) × Placed n r
found_place n = go (ltb (place_of n) no_place_spec) refl
  where
    go : (b : Bool) → ltb (place_of n) no_place_spec ≡ b → (r : Option ℕ) × Placed n r
    go true e = (Some (place_of n), (refl, ltb-true _ _ e))
    go false e = let past = ltb-false (place_of n) no_place_spec e in (None, omega (arith, past, place_most n))

pub one_place : (n : ℕ) (r s : Option ℕ) → Placed n r → Placed n s → r ≡ s
one_place n (Some p) (Some q) h k = ap Some (h.0 ∙ sym k.0)
one_place n (Some p) None h k = absurd (omega (arith, h.0, h.1, k))
one_place n None (Some q) h k = absurd (omega (arith, h, k.0, k.1))
one_place n None None h k = refl

-- ---- bits at a place
pub no_bits : (n : ℕ) → place_of n ≡ no_place_spec → bits_of_spec n ≡ 0
unfolding rows
no_bits n e = sym (bits_there n) ∙ ap (λ (p : ℕ). get_or (widths_of rows) p 0) e

all_wide : List Row → Bool
all_wide [] = true
all_wide (r ∷ rs) = ltb 0 r.bits && all_wide rs

wide_at : (rs : List Row) (p : ℕ) → all_wide rs ≡ true → p < length rs → 0 < get_or (widths_of rs) p 0
unfolding all_wide
wide_at [] p t h = absurd (omega arith)
wide_at (r ∷ rs) zero t h = ltb-true 0 r.bits ((and-eq-true_iff (ltb 0 r.bits) (all_wide rs)).0 t).0
wide_at (r ∷ rs) (suc p) t h = wide_at rs p ((and-eq-true_iff (ltb 0 r.bits) (all_wide rs)).0 t).1 (omega (arith, h))

all_wide_law : all_wide rows ≡ true
unfolding all_wide rows
all_wide_law = refl

-- what is read there is the signal's bits, and there are some
module _ (widths : List ℕ) (n p : ℕ) (column : widths ≡ widths_of rows) (place : (p ≡ place_of n) × (p < no_place_spec)) where
  pub in_widths : p < length widths
  in_widths = rw column (subst (λ (k : ℕ). p < k) (sym (length-map rows (λ (r : Row). r.bits) ∙ long)) place.1)

  module _ (b : ℕ) (e : b ≡ get_or widths p 0) where
    pub its_bits : b ≡ bits_of_spec n
    its_bits = e ∙ (rw (column, place.0) (bits_there n))

    pub has_some : 0 < b
    has_some = rw (e, column) (wide_at rows p all_wide_law (subst (λ (k : ℕ). p < k) (sym long) place.1))
