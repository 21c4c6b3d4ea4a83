-- Words for lists: no entry twice, those that pass a test, the numbers below one, the entries of a column at some indices. Assumes
-- nothing: these are definitions.
use Rattle.std.specs.Prelude.{Bool, cond, ℕ, zero, suc, get_or}
use mathlib.Core.List.{List, [], ◌∷◌, map, Memᴰ}

-- no entry comes twice
abbrev pub Distinct : {A : Type 0} → List A → Type 0
Distinct [] = Unit {0}
Distinct (x ∷ l) = (Memᴰ x l → ⊥) × Distinct l

-- every entry of the one is an entry of the other
abbrev pub Subset : {A : Type 0} → List A → List A → Type 0
Subset {A} l m = (x : A) → Memᴰ x l → Memᴰ x m

-- those entries that pass a test, in the same order
abbrev pub those : {A : Type 0} → (A → Bool) → List A → List A
those P [] = []
those P (x ∷ l) = cond (P x) (x ∷ those P l) (those P l)

-- the numbers below n, rising
abbrev pub numbers_below : ℕ → List ℕ
numbers_below zero = []
numbers_below (suc n) = 0 ∷ map suc (numbers_below n)

-- the entries of a column at some indices, one by one
abbrev pub entries_at : List ℕ → List ℕ → List ℕ
entries_at l indices = map (λ (i : ℕ). get_or l i 0) indices
