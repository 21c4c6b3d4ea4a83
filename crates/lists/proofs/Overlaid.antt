-- A lent list whose first n entries are each as some statement says, and whose other entries are as they were lent: where the statement
-- leaves one number for each of them there is one such list, and no other. Assumes nothing.
use mathlib.Core.Path.{◌≡◌, refl, sym, ap, ◌∙◌}
use Prim.Native.Nat.{ℕ, zero, suc, ◌≤◌, ◌<◌}
use native.Mathlib.Nat.{le_of_suc-le-suc}
use native.Mathlib.Omega.{arith}
use native.Mathlib.Decide.{dec_le}
use mathlib.Core.List.{List, [], ◌∷◌}
use lib.ListN.{length, get_or}
use lib.Seq.{ext_get_or}

pub record Overlaid (Entry : ℕ → ℕ → Type 0) (n : ℕ) (lent l : List ℕ) : Type 0 where
  pub each : (i : ℕ) → i < n → Entry i (get_or l i 0)
  pub long : length l ≡ length lent
  pub rest : (i : ℕ) → n ≤ i → get_or l i 0 ≡ get_or lent i 0

pub overlaid_once : (Entry : ℕ → ℕ → Type 0) (n : ℕ) (lent : List ℕ) → ((i : ℕ) → i < n → (v w : ℕ) → Entry i v → Entry i w → v ≡ w)
    → (l m : List ℕ) → Overlaid Entry n lent l → Overlaid Entry n lent m → l ≡ m
overlaid_once Entry n lent one l m f g = ext_get_or 0 l m (f.long ∙ sym g.long) (λ i h. go i (dec_le n i))
  where
    go : (i : ℕ) → Dec (n ≤ i) → get_or l i 0 ≡ get_or m i 0
    go i (yes b) = f.rest i b ∙ sym (g.rest i b)
    go i (no a) = one i (omega arith) _ _ (f.each i (omega arith)) (g.each i (omega arith))

pub overlaid : (Entry : ℕ → ℕ → Type 0) (n : ℕ) (lent : List ℕ) → n ≤ length lent → ((i : ℕ) → i < n → (v : ℕ) × Entry i v) → (l : List ℕ) × Overlaid Entry n lent l
overlaid Entry zero lent h some = (lent, record { each = λ i b. absurd (omega arith); long = refl; rest = λ i b. refl })
overlaid Entry (suc n) [] h some = absurd (omega arith)
overlaid Entry (suc n) (x ∷ lent) h some = more (some 0 (omega arith)) (overlaid (λ i. Entry (suc i)) n lent (le_of_suc-le-suc h) (λ i b. some (suc i) (omega arith)))
  where
    more : (v : ℕ) × Entry 0 v → (l : List ℕ) × Overlaid (λ i. Entry (suc i)) n lent l → (l : List ℕ) × Overlaid Entry (suc n) (x ∷ lent) l
    more (v, e) (l, o) = (v ∷ l, record { each = each; long = ap suc o.long; rest = rest })
      where
        each : (i : ℕ) → i < suc n → Entry i (get_or (v ∷ l) i 0)
        each zero b = e
        each (suc i) b = o.each i (le_of_suc-le-suc b)

        rest : (i : ℕ) → suc n ≤ i → get_or (v ∷ l) i 0 ≡ get_or (x ∷ lent) i 0
        rest zero b = absurd (omega arith)
        rest (suc i) b = o.rest i (le_of_suc-le-suc b)
