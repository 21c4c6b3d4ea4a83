-- A number whose mark is not filled is none of those that fill theirs. Assumes nothing.
use mathlib.Core.Path.{◌≡◌, refl, sym, ap, ◌∙◌}
use mathlib.Core.Bool.{Bool, true, false, ◌||◌, or-true, or-false, or_assoc}
use mathlib.Core.List.{List, [], ◌∷◌, ◌++◌}
use Prim.Native.Nat.{ℕ, ◌%◌}
use native.Mathlib.Omega.{arith}
use lib.Dec.{eqb}
use borrow.Author.Tests.{eqb-true, eq-eqb}
use Rattle.books.specs.Lines.{is_in}
use Rattle.masks.specs.Bit.{width, bit}
use Rattle.placing.specs.Filling.{marked, Marks}

pub marked_none : (j : ℕ) → marked [] j ≡ false
unfolding marked
marked_none j = refl

pub marked_more : (ns : List ℕ) (x j : ℕ) → marked (ns ++ (x ∷ [])) j ≡ marked ns j || eqb j (x % width)
unfolding marked
marked_more [] x j = or-false (eqb j (x % width))
marked_more (n ∷ ns) x j =
    ap (λ (t : Bool). eqb j (n % width) || t) (marked_more ns x j) ∙ sym (or_assoc (eqb j (n % width)) (marked ns j) (eqb j (x % width)))

-- the mark of a number that stands there
in_marked : (ns : List ℕ) (x : ℕ) → is_in x ns ≡ true → marked ns (x % width) ≡ true
unfolding marked is_in
in_marked [] x e = e
in_marked (n ∷ ns) x e = go (eqb x n) refl (λ i. in_marked ns x i)
  where
    go : (t : Bool) → eqb x n ≡ t → (is_in x ns ≡ true → marked ns (x % width) ≡ true) → eqb (x % width) (n % width) || marked ns (x % width) ≡ true
    go true s later = ap (λ (t : Bool). t || marked ns (x % width)) (eq-eqb _ _ (ap (λ (k : ℕ). k % width) (eqb-true x n s)))
    go false s later =
        ap (λ (t : Bool). eqb (x % width) (n % width) || t) (later (ap (λ (t : Bool). t || is_in x ns) (sym s) ∙ e)) ∙ or-true (eqb (x % width) (n % width))

pub unmarked : (ns : List ℕ) (marks x : ℕ) → Marks ns marks → bit marks (x % width) ≡ false → is_in x ns ≡ false
unmarked ns marks x m e = go (is_in x ns) refl
  where
    go : (t : Bool) → is_in x ns ≡ t → is_in x ns ≡ false
    go true i =
        let set : bit marks (x % width) ≡ true = m (x % width) ∙ in_marked ns x i in
        let z : ◌≡◌ {A = ℕ} 0 1 = cc in
        absurd (omega arith)
    go false i = i
