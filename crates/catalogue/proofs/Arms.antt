-- What `_` knows in a `match` on a number: it is none of the numbers of the other arms. Assumes nothing.
use mathlib.Core.Path.{◌≡◌, refl, sym, ap}
use mathlib.Core.List.{List, [], ◌∷◌, map}
use mathlib.Core.Option.{none}
use Prim.Native.Nat.{ℕ}
use borrow.Author.Tests.{ne_eqb}
use Rattle.rows.specs.declared.Row.{Row}
use Rattle.catalogue.specs.Find.{row_in}
use Rattle.catalogue.specs.Signals.{signals}
use Rattle.catalogue.specs.Shapes.{shapes, no_shape, shape_in, shape_of, row_shaped}

-- R, and x is none of the numbers
abbrev NoneOf : Type 0 → ℕ → List ℕ → Type 0
NoneOf R x [] = R
NoneOf R x (k ∷ ks) = NoneOf (R × (x ≡ k → ⊥)) x ks

known : (R : Type 0) (x : ℕ) (ks : List ℕ) → NoneOf R x ks → R
known R x [] r = r
known R x (k ∷ ks) r = (known (R × (x ≡ k → ⊥)) x ks r).0

-- ---- an arm for each shape

abbrev shape_numbers : List Row → List ℕ
shape_numbers rs = map (λ (r : Row). r.number) rs

no_row : (R : Type 0) (x : ℕ) (rs : List Row) → NoneOf R x (shape_numbers rs) → none ≡ row_in x rs
no_row R x [] r = refl
no_row R x (s ∷ rs) r =
    let other = (known (R × (x ≡ s.number → ⊥)) x (shape_numbers rs) r).1 in
    simp (ne_eqb s.number x (λ e. other (sym e))) (no_row (R × (x ≡ s.number → ⊥)) x rs r)

-- at `_` it is no shape
pub no_shape_law : (s : ℕ) → NoneOf Unit s (shape_numbers shapes) → none ≡ row_shaped s
no_shape_law s r = no_row Unit s shapes r

-- ---- an arm for each signal

abbrev signal_numbers : List (ℕ × ℕ) → List ℕ
signal_numbers ps = map (λ (p : ℕ × ℕ). p.0) ps

no_signal : (R : Type 0) (x : ℕ) (ps : List (ℕ × ℕ)) → NoneOf R x (signal_numbers ps) → no_shape ≡ shape_in x ps
no_signal R x [] r = refl
no_signal R x (p ∷ ps) r =
    let other = (known (R × (x ≡ p.0 → ⊥)) x (signal_numbers ps) r).1 in
    simp (ne_eqb p.0 x (λ e. other (sym e))) (no_signal (R × (x ≡ p.0 → ⊥)) x ps r)

-- at an arm it is the shape of the arm's number, which is the same
pub by_number : {x k : ℕ} → x ≡ k → shape_of k ≡ shape_of x
by_number e = ap shape_of (sym e)

-- at `_` it is that of no signal
pub by_none : (x : ℕ) → NoneOf Unit x (signal_numbers signals) → no_shape ≡ shape_of x
by_none x r = no_signal Unit x signals r
