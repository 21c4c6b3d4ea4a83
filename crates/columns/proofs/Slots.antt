-- Identifiers passed one after the other, each of which marks its slot. Assumes nothing.
use mathlib.Core.Path.{◌≡◌, refl, sym, ◌∙◌, subst}
use mathlib.Core.Bool.{Bool, true, false, true≢false}
use mathlib.Core.List.{List}
use Prim.Native.Nat.{ℕ, ◌+◌, ◌≤◌, ◌<◌}
use native.Mathlib.Numerals.{add-one}
use native.Mathlib.Omega.{arith}
use borrow.Author.Tests.{le-leb, lt-leb, eqb-true, eqb-false}
use lib.Arith.{lt_of_le-ne}
use lib.Dec.{eqb}
use lib.ListN.{length, take, drop, get_or, set, drop_of_length-le}
use lib.Seq.{drop-cons, take-suc, get_or-set_same, get_or-set_other}
use Rattle.books.specs.Lines.{is_in, identifier_limit}
use Rattle.columns.specs.Identifiers.{distinct_after}
use Rattle.columns.specs.Slots.{identifier_slot}
use Rattle.columns.proofs.Searching.{absent}

module _ (l : List ℕ) (i : ℕ) where
  pub distinct_end : length l ≤ i → distinct_after (take i l) (drop i l) ≡ true
  unfolding distinct_after
  distinct_end h = rw (drop_of_length-le l h)

  module _ (h : i < length l) where
    pub distinct_over : identifier_limit ≤ get_or l i 0 → distinct_after (take i l) (drop i l) ≡ false
    unfolding distinct_after
    distinct_over e = rw (drop-cons l i 0 h, le-leb _ _ e)

    module _ (e : get_or l i 0 < identifier_limit) where
      pub distinct_again : is_in (get_or l i 0) (take i l) ≡ true → distinct_after (take i l) (drop i l) ≡ false
      unfolding distinct_after
      distinct_again m = rw (drop-cons l i 0 h, lt-leb _ _ e, m)

      pub distinct_next : is_in (get_or l i 0) (take i l) ≡ false → distinct_after (take (i + 1) l) (drop (i + 1) l) ≡ distinct_after (take i l) (drop i l)
      unfolding distinct_after
      distinct_next m = rw (drop-cons l i 0 h, lt-leb _ _ e, m, add-one i, take-suc l i 0 h)

-- the slot of each of the first i identifiers is used
abbrev pub Used : List ℕ → List Bool → ℕ → Type 0
Used l used i = (j : ℕ) → j < i → j < length l → get_or used (identifier_slot (get_or l j 0)) false ≡ true

pub unused : (l : List ℕ) (used : List Bool) (i x k : ℕ) → k ≡ identifier_slot x → get_or used k false ≡ false → Used l used i → is_in x (take i l) ≡ false
unused l used i x k e z f =
    absent x l i (λ j p q d.
    let a : get_or used (identifier_slot x) false ≡ true = subst (λ (m : ℕ). get_or used (identifier_slot m) false ≡ true) d (f j p q) in
    let b : get_or used (identifier_slot x) false ≡ false = subst (λ (m : ℕ). get_or used m false ≡ false) e z in
    true≢false (sym a ∙ b))

pub used_more : (l : List ℕ) (used : List Bool) (i k : ℕ) → k ≡ identifier_slot (get_or l i 0) → k < length used → Used l used i → Used l (set used k true) (i + 1)
used_more l used i k e h f j p q = go (eqb (identifier_slot (get_or l j 0)) k) refl
  where
    go : (b : Bool) → eqb (identifier_slot (get_or l j 0)) k ≡ b → get_or (set used k true) (identifier_slot (get_or l j 0)) false ≡ true
    go true d = subst (λ (m : ℕ). get_or (set used k true) m false ≡ true) (sym (eqb-true _ _ d)) (get_or-set_same used k true false h)
    go false d =
        let ne = eqb-false (identifier_slot (get_or l j 0)) k d in
        let n : j ≡ i → ⊥ = λ u. ne (subst (λ (m : ℕ). identifier_slot (get_or l m 0) ≡ k) (sym u) (sym e)) in
        get_or-set_other used k (identifier_slot (get_or l j 0)) true false ne ∙ f j (lt_of_le-ne (omega arith) n) q
