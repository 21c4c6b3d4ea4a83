-- A search of a column. Assumes nothing.
use mathlib.Core.Path.{◌≡◌, refl, sym, ap, ◌∙◌}
use mathlib.Core.Bool.{Bool, true, false, ◌||◌}
use mathlib.Core.List.{List, [], ◌∷◌}
use Prim.Native.Nat.{ℕ, zero, suc, ◌<◌}
use native.Mathlib.Omega.{arith}
use lib.Dec.{eqb}
use lib.ListN.{length, take, get_or}
use borrow.Author.Tests.{eq-eqb, ne_eqb, eqb-true, eqb-false}
use Rattle.std.specs.List.{list_any}
use Rattle.books.specs.Lines.{is_in}

eqb_flip : (a b : ℕ) → eqb a b ≡ eqb b a
eqb_flip a b = go (eqb b a) refl
  where
    go : (t : Bool) → eqb b a ≡ t → eqb a b ≡ eqb b a
    go true e = eq-eqb a b (sym (eqb-true b a e)) ∙ sym e
    go false e = ne_eqb a b (λ h. eqb-false b a e (sym h)) ∙ sym e

-- one of the entries is the number just where it is among them
pub any_is_in : (x : ℕ) (l : List ℕ) → list_any (λ y. eqb y x) l ≡ is_in x l
unfolding is_in
any_is_in x [] = refl
any_is_in x (y ∷ ys) = ap (λ (t : Bool). t || list_any (λ z. eqb z x) ys) (eqb_flip y x) ∙ ap (λ (t : Bool). eqb x y || t) (any_is_in x ys)

-- what stands at none of the first i places is not among them
pub absent : (x : ℕ) (l : List ℕ) (i : ℕ) → ((j : ℕ) → j < i → j < length l → get_or l j 0 ≡ x → ⊥) → is_in x (take i l) ≡ false
unfolding is_in
absent x l zero f = refl
absent x [] (suc i) f = refl
absent x (y ∷ ys) (suc i) f =
    rw (ne_eqb x y (λ e. f 0 (omega arith) (omega arith) (sym e)))
    (absent x ys i (λ j p q e. f (suc j) (omega arith) (omega arith) e))
