-- Placements whose numbers and starts stand side by side, and routes whose places do. Assumes nothing.
use mathlib.Core.Path.{◌≡◌, refl, sym, ap, ◌∙◌}
use mathlib.Core.List.{List, [], ◌∷◌}
use Prim.Native.Nat.{ℕ, suc, ◌+◌, ◌≤◌, ◌<◌}
use native.Mathlib.Omega.{arith}
use native.Mathlib.Numerals.{add-one}
use lib.ListN.{length, get_or, drop, drop_of_length-le}
use lib.Seq.{drop-cons}
use Rattle.books.specs.Book.{Placement, numbers}
use Rattle.books.specs.Words.{placement_starts, side_by_side}

pub side_back : (ps : List Placement) → side_by_side (numbers ps) (placement_starts ps) ≡ ps
unfolding side_by_side
side_back [] = refl
side_back (p ∷ ps) = ap (◌∷◌ p) (side_back ps)

pub side_length : (ns ss : List ℕ) → length ss ≡ length ns → length (side_by_side ns ss) ≡ length ns
unfolding side_by_side
side_length [] ss e = refl
side_length (n ∷ ns) [] e = absurd (omega (arith, e))
side_length (n ∷ ns) (s ∷ ss) e = ap suc (side_length ns ss (omega (arith, e)))

pub side_numbers : (ns ss : List ℕ) → length ss ≡ length ns → numbers (side_by_side ns ss) ≡ ns
unfolding side_by_side
side_numbers [] ss e = refl
side_numbers (n ∷ ns) [] e = absurd (omega (arith, e))
side_numbers (n ∷ ns) (s ∷ ss) e = ap (◌∷◌ n) (side_numbers ns ss (omega (arith, e)))

pub side_starts : (ns ss : List ℕ) → length ss ≡ length ns → placement_starts (side_by_side ns ss) ≡ ss
unfolding side_by_side
side_starts [] [] e = refl
side_starts [] (s ∷ ss) e = absurd (omega (arith, e))
side_starts (n ∷ ns) [] e = absurd (omega (arith, e))
side_starts (n ∷ ns) (s ∷ ss) e = ap (◌∷◌ s) (side_starts ns ss (omega (arith, e)))

-- a list from i on, where i is within it
pub from : (l : List ℕ) (i : ℕ) → i < length l → drop i l ≡ get_or l i 0 ∷ drop (i + 1) l
from l i h = drop-cons l i 0 h ∙ ap (λ (k : ℕ). get_or l i 0 ∷ drop k l) (sym (add-one i))

-- ---- placements from i on
abbrev pub placement_at : List ℕ → List ℕ → ℕ → Placement
placement_at ns ss i = record { number = get_or ns i 0; start = get_or ss i 0 }

abbrev pub rest : List ℕ → List ℕ → ℕ → List Placement
rest ns ss i = side_by_side (drop i ns) (drop i ss)

pub rest_more : (ns ss : List ℕ) (i : ℕ) → i < length ns → length ss ≡ length ns → rest ns ss i ≡ placement_at ns ss i ∷ rest ns ss (i + 1)
unfolding side_by_side
rest_more ns ss i h e =
    ap (λ (l : List ℕ). side_by_side l (drop i ss)) (from ns i h) ∙ ap (λ (l : List ℕ). side_by_side (get_or ns i 0 ∷ drop (i + 1) ns) l) (from ss i (omega arith))

pub rest_none : (ns ss : List ℕ) (i : ℕ) → length ns ≤ i → rest ns ss i ≡ []
unfolding side_by_side
rest_none ns ss i h = ap (λ (l : List ℕ). side_by_side l (drop i ss)) (drop_of_length-le ns h)
