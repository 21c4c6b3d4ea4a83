-- The front of a room, written entry by entry. Assumes nothing.
use mathlib.Core.Path.{◌≡◌, refl, sym, ap, ◌∙◌}
use Prim.Native.Nat.{ℕ, zero, suc, ◌+◌, ◌<◌, ◌≤◌}
use native.Mathlib.Nat.{le_of_suc-le-suc, zero-add}
use native.Mathlib.Numerals.{add-one}
use native.Mathlib.Omega.{arith}
use mathlib.Core.List.{List, [], ◌∷◌, ◌++◌}
use lib.ListN.{length, get_or, set, take, drop, length-set}
use lib.Seq.{sets-eq, take-append_seam, take_all}
use Rattle.sending.specs.Writing.{Written}

set_front : (s l : List ℕ) (i : ℕ) → i < length s → i < length l → set (take i s ++ drop i l) i (get_or s i 0) ≡ take (suc i) s ++ drop (suc i) l
set_front [] l i h k = absurd (omega arith)
set_front (x ∷ s) [] i h k = absurd (omega arith)
set_front (x ∷ s) (y ∷ l) zero h k = refl
set_front (x ∷ s) (y ∷ l) (suc i) h k = ap (λ (t : List ℕ). x ∷ t) (set_front s l i (le_of_suc-le-suc h) (le_of_suc-le-suc k))

-- the first i entries are copied
pub record Copied (s l : List ℕ) (n i : ℕ) (l' : List ℕ) : Type 0 where
  pub within : i ≤ n
  pub long : length l' ≡ length l
  pub front : l' ≡ take i s ++ drop i l

pub copied_more : (s l : List ℕ) (n i : ℕ) (l' : List ℕ) → Copied s l n i l' → i < n → n ≤ length s → n ≤ length l → Copied s l n (i + 1) (set l' i (get_or s i 0))
copied_more s l n i l' h lt a b = record {
  within = omega arith;
  long = length-set l' i (get_or s i 0) ∙ h.long;
  front = rw add-one (ap (λ (t : List ℕ). set t i (get_or s i 0)) h.front ∙ set_front s l i (omega arith) (omega arith));
}

pub copied_end : (s l : List ℕ) (n i : ℕ) (l' : List ℕ) → Copied s l n i l' → n ≤ i → l' ≡ take n s ++ drop n l
copied_end s l n i l' h k = let e : i ≡ n = omega (arith, h.within) in h.front ∙ ap (λ (m : ℕ). take m s ++ drop m l) e

-- all of them are copied
pub copied_all : (s l : List ℕ) (n i : ℕ) (l' : List ℕ) → Copied s l (length s) i l' → length s ≤ i → n ≡ length s → l' ≡ s ++ drop n l
copied_all s l n i l' h k e =
    copied_end s l (length s) i l' h k
    ∙ ap (λ (t : List ℕ). t ++ drop (length s) l) (take_all (length s) s (omega arith))
    ∙ ap (λ (m : ℕ). s ++ drop m l) (sym e)

-- what is written from 0 on stands at the front
pub front : (s l l' : List ℕ) (r : ℕ) → length s ≤ length l → Written s l 0 l' r → (r ≡ length s) × (take r l' ≡ s)
front s l l' r h w =
    let e : r ≡ length s = w.ends ∙ zero-add (length s) in
    (e, ap (λ (k : ℕ). take k l') e ∙ ap (take (length s)) (w.is ∙ sets-eq s l 0 (rw zero-add h)) ∙ take-append_seam s (drop (0 + length s) l))
