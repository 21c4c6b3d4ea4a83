-- The steps of the spread. Assumes nothing.
use mathlib.Core.Path.{◌≡◌, refl, sym, ap, ◌∙◌}
use Prim.Native.Nat.{ℕ, suc, ◌+◌, ◌-◌, ◌<◌, ◌≤◌}
use native.Mathlib.Nat.{add-suc, suc-add, add-zero, sub-eq-zero_of_le, sub-zero}
use native.Mathlib.Numerals.{add-one}
use native.Mathlib.Omega.{arith}
use mathlib.Core.List.{List, [], ◌∷◌, ◌++◌}
use lib.ListN.{length, get_or, set, take, length-append}
use lib.Seq.{sets, get_or-take}
use borrow.Author.Tests.{eq-eqb, ne_eqb}
use Rattle.record.specs.Columns.{route_count_of}
use Rattle.chains.specs.Chain.{LoopFree}
use Rattle.chains.specs.Spread.{spread_of}
use Rattle.chains.specs.Along.{sends_along}
use Rattle.chains.proofs.Spreads.{spread_rule}
use Rattle.chains.proofs.Along.{sends_along_law}
use Rattle.sending.specs.Writing.{Written, RouteOf, live_tos, spread_in, handed_along, handed_on}

sets_append : (xs ys l : List ℕ) (i : ℕ) → sets l i (xs ++ ys) ≡ sets (sets l i xs) (i + length xs) ys
sets_append [] ys l i = rw add-zero refl
sets_append (x ∷ xs) ys l i =
    sets_append xs ys (set l i x) (suc i) ∙ ap (λ (k : ℕ). sets (sets (set l i x) (suc i) xs) k ys) (suc-add i (length xs) ∙ sym (add-suc i (length xs)))

-- what is left to send along the routes from route i on
abbrev pub left : List ℕ → List ℕ → ℕ → ℕ → List ℕ
left fs ts p i = sends_along fs ts (spread_of fs ts) p i (length fs - i)

-- the loop over the routes: once what is left is written, all is
pub record Going (fs ts : List ℕ) (p : ℕ) (l : List ℕ) (at i : ℕ) (l' : List ℕ) (a : ℕ) : Type 0 where
  pub within : i ≤ length fs
  pub next : a + length (left fs ts p i) ≡ at + length (spread_of fs ts p)
  pub final : sets l' a (left fs ts p i) ≡ sets l at (spread_of fs ts p)

module _ (fs ts : List ℕ) (p : ℕ) (l : List ℕ) (at : ℕ) where
  pub going_start : LoopFree fs ts → Going fs ts p l at 0 l at
  going_start free =
      let e : left fs ts p 0 ≡ spread_of fs ts p = ap (λ (m : ℕ). sends_along fs ts (spread_of fs ts) p 0 m) (sub-zero (length fs)) ∙ sym (spread_rule fs ts free p ∙ sends_along_law fs ts (spread_of fs ts) p) in
      record { within = omega arith; next = rw e; final = rw e }

  module _ (i : ℕ) (l' : List ℕ) (a : ℕ) (inv : Going fs ts p l at i l' a) (lt : i < length fs) where
    split : length fs - i ≡ suc (length fs - (i + 1))
    split = omega arith

    left_skip : (get_or fs i 0 ≡ p → ⊥) → left fs ts p i ≡ left fs ts p (i + 1)
    left_skip ne = rw (split, ne_eqb (get_or fs i 0) p ne, add-one)

    left_take : get_or fs i 0 ≡ p → left fs ts p i ≡ handed_along fs ts i ++ left fs ts p (i + 1)
    left_take e = rw (split, eq-eqb (get_or fs i 0) p e, add-one)

    -- route i does not start at p
    pub going_skip : (get_or fs i 0 ≡ p → ⊥) → Going fs ts p l at (i + 1) l' a
    going_skip ne = record { within = omega arith; next = rw (← left_skip ne) inv.next; final = rw (← left_skip ne) inv.final }

    -- it does, and there is space for what it hands on
    pub going_space : get_or fs i 0 ≡ p → (most : ℕ) → at + length (spread_of fs ts p) ≤ most → a + length (handed_along fs ts i) ≤ most
    going_space e most space = omega (arith, inv.next, ap length (left_take e), length-append (handed_along fs ts i) (left fs ts p (i + 1)))

    pub going_take : get_or fs i 0 ≡ p → (l'' : List ℕ) (r : ℕ) → Written (handed_along fs ts i) l' a l'' r → Going fs ts p l at (i + 1) l'' r
    going_take e l'' r w = record {
      within = omega arith;
      next = omega (arith, w.ends, inv.next, ap length (left_take e), length-append (handed_along fs ts i) (left fs ts p (i + 1)));
      final = rw (w.is, w.ends) (sym (sets_append (handed_along fs ts i) (left fs ts p (i + 1)) l' a) ∙ ap (sets l' a) (sym (left_take e)) ∙ inv.final);
    }

  pub going_end : (i : ℕ) (l' : List ℕ) (a : ℕ) → Going fs ts p l at i l' a → length fs ≤ i → Written (spread_of fs ts p) l at l' a
  going_end i l' a inv h =
      let e : left fs ts p i ≡ [] = ap (λ (m : ℕ). sends_along fs ts (spread_of fs ts) p i m) (sub-eq-zero_of_le h) in
      record { ends = sym (add-zero a) ∙ (rw e at inv.next); is = rw e at inv.final }

-- the place a route leads to, then its spread
written_after : (x : ℕ) (s l : List ℕ) (at : ℕ) (l' : List ℕ) (r : ℕ) → Written s (set l at x) (at + 1) l' r → Written (x ∷ s) l at l' r
written_after x s l at l' r w = record { ends = omega (arith, w.ends); is = rw add-one at w.is }

pub handed_after : (w : List ℕ) (i : ℕ) {x : ℕ} {l put after : List ℕ} {at next : ℕ} → x ≡ get_or (live_tos w) i 0 → put ≡ set l at x
    → Written (spread_in w x) put (at + 1) after next → Written (handed_on w i) l at after next
handed_after w i {x} {l} {put} {after} {at} {next} e p h = rw (← e) (written_after x (spread_in w x) l at after next (rw p at h))

-- the entry of a column at a route that is counted
pub column_entry : {w l column : List ℕ} {i : ℕ} → l ≡ column → RouteOf w i → get_or l i 0 ≡ get_or (take (route_count_of w) column) i 0
column_entry {w} {l} {column} {i} e r = rw e (sym (get_or-take (route_count_of w) column i 0 r.counted))
