-- Zeros gathered bit by bit, and what zeros are. Assumes nothing.
use mathlib.Core.Path.{◌≡◌, refl, sym, ap, ◌∙◌}
use mathlib.Core.Bool.{Bool, true, false, ◌&&◌, false≢true, and_assoc, and-true}
use mathlib.Core.List.{List, [], ◌∷◌}
use Prim.Native.Nat.{ℕ, zero, suc, ◌+◌, ◌-◌, ◌/◌, ◌≤◌, ◌<◌}
use native.Mathlib.Omega.{arith}
use native.Mathlib.Numerals.{add-one}
use lib.Bits.{bit_or, or_zero_l, or_add_and, and_le_r}
use lib.Dec.{eqb}
use lib.ListN.{length, get_or, take, drop, replicate, length-drop, drop_of_length-le}
use lib.Seq.{drop-cons, drop-drop, take_all}
use borrow.Author.Tests.{ne_eqb}
use Rattle.zeros.specs.Zeros.{zeros}

or_zero_law : (a b : ℕ) → eqb (bit_or a b) 0 ≡ eqb a 0 && eqb b 0
or_zero_law zero b = rw or_zero_l
or_zero_law (suc a) b =
    ne_eqb (bit_or (suc a) b) 0 (λ e. omega (arith, or_add_and (suc a) b, and_le_r (suc a) b))
    ∙ ap (λ (t : Bool). t && eqb b 0) (sym (ne_eqb (suc a) 0 (λ e. omega arith)))

-- the loop: what is gathered, and what is left
pub zeros_step : (l : List ℕ) (i a : ℕ) → i < length l → eqb (bit_or a (get_or l i 0)) 0 && zeros (drop (i + 1) l) ≡ eqb a 0 && zeros (drop i l)
unfolding zeros
zeros_step l i a h = rw (drop-cons l i 0 h, or_zero_law, add-one i) (and_assoc (eqb a 0) (eqb (get_or l i 0) 0) (zeros (drop (suc i) l)))

pub zeros_end : (l : List ℕ) (i a : ℕ) → length l ≤ i → eqb a 0 && zeros (drop i l) ≡ eqb a 0
unfolding zeros
zeros_end l i a h = rw (drop_of_length-le l h) (and-true (eqb a 0))

-- entries that are all 0 are 0, as often as there are entries
pub zeros_are : (l : List ℕ) → zeros l ≡ true → l ≡ replicate (length l) 0
unfolding zeros
zeros_are [] e = refl
zeros_are (zero ∷ l) e = ap (λ (t : List ℕ). 0 ∷ t) (zeros_are l e)
zeros_are (suc x ∷ l) e = absurd (false≢true (ap (λ (t : Bool). t && zeros l) (sym (ne_eqb (suc x) 0 (λ z. omega arith))) ∙ e))

pub are_zeros : (n : ℕ) → zeros (replicate n 0) ≡ true
unfolding zeros
are_zeros zero = refl
are_zeros (suc n) = are_zeros n

-- each of them is 0, and so is what stands past them
pub zero_at : (n i : ℕ) → get_or {A = ℕ} (replicate n 0) i 0 ≡ 0
zero_at zero i = refl
zero_at (suc n) zero = refl
zero_at (suc n) (suc i) = zero_at n i

-- the same over two lists in step
and_swap : (a b c d : Bool) → (a && b) && (c && d) ≡ (a && c) && (b && d)
and_swap true true c d = refl
and_swap true false true d = refl
and_swap true false false d = refl
and_swap false b c d = refl

both_step : (l m : List ℕ) (i a : ℕ) → length m ≡ length l → i < length l
    → eqb (bit_or (bit_or a (get_or l i 0)) (get_or m i 0)) 0 && (zeros (drop (i + 1) l) && zeros (drop (i + 1) m)) ≡ eqb a 0 && (zeros (drop i l) && zeros (drop i m))
unfolding zeros
both_step l m i a e h =
    let g : i < length m = omega (arith, e, h) in
    rw (drop-cons l i 0 h, drop-cons m i 0 g, or_zero_law, add-one i)
    (ap (λ (t : Bool). (t && eqb (get_or m i 0) 0) && (zeros (drop (suc i) l) && zeros (drop (suc i) m))) (or_zero_law a (get_or l i 0))
    ∙ and_swap (eqb a 0 && eqb (get_or l i 0) 0) (eqb (get_or m i 0) 0) (zeros (drop (suc i) l)) (zeros (drop (suc i) m))
    ∙ spread (eqb a 0) (eqb (get_or l i 0) 0) (zeros (drop (suc i) l)) (eqb (get_or m i 0) 0 && zeros (drop (suc i) m)))
  where
    spread : (p q r s : Bool) → ((p && q) && r) && s ≡ p && ((q && r) && s)
    spread true q r s = refl
    spread false q r s = refl

-- and over four
and_turn : (p q r : Bool) → p && (q && r) ≡ (p && r) && q
and_turn true true true = refl
and_turn true true false = refl
and_turn true false true = refl
and_turn true false false = refl
and_turn false q r = refl

module _ (a b c d : List ℕ) (same : (length b ≡ length a) × (length c ≡ length a) × (length d ≡ length a)) where
  pub four_step : (i x : ℕ) → i < length a
      → eqb (bit_or (bit_or (bit_or (bit_or x (get_or a i 0)) (get_or b i 0)) (get_or c i 0)) (get_or d i 0)) 0 && ((zeros (drop (i + 1) a) && zeros (drop (i + 1) b)) && (zeros (drop (i + 1) c) && zeros (drop (i + 1) d)))
      ≡ eqb x 0 && ((zeros (drop i a) && zeros (drop i b)) && (zeros (drop i c) && zeros (drop i d)))
  four_step i x h =
      let y = bit_or (bit_or x (get_or a i 0)) (get_or b i 0) in
      let first = zeros (drop (i + 1) a) && zeros (drop (i + 1) b) in
      let second = zeros (drop i c) && zeros (drop i d) in
      let g : i < length c = omega (arith, same.1, h) in
      and_turn (eqb (bit_or (bit_or y (get_or c i 0)) (get_or d i 0)) 0) first (zeros (drop (i + 1) c) && zeros (drop (i + 1) d))
      ∙ ap (λ (t : Bool). t && first) (both_step c d i y (omega (arith, same.1, same.2)) g)
      ∙ sym (and_turn (eqb y 0) first second)
      ∙ sym (and_assoc (eqb y 0) first second)
      ∙ ap (λ (t : Bool). t && second) (both_step a b i x same.0 h)
      ∙ and_assoc (eqb x 0) (zeros (drop i a) && zeros (drop i b)) second

  pub four_end : (i x : ℕ) → length a ≤ i → eqb x 0 && ((zeros (drop i a) && zeros (drop i b)) && (zeros (drop i c) && zeros (drop i d))) ≡ eqb x 0
  unfolding zeros
  four_end i x h =
      let hb : length b ≤ i = omega (arith, same.0, h) in
      let hc : length c ≤ i = omega (arith, same.1, h) in
      let hd : length d ≤ i = omega (arith, same.2, h) in
      rw (drop_of_length-le a h, drop_of_length-le b hb, drop_of_length-le c hc, drop_of_length-le d hd) (and-true (eqb x 0))

-- ---- a list as two parts that leave nothing out
again : (g : ℕ) (l : List ℕ) → zeros (take g l) && zeros l ≡ zeros l
unfolding zeros
again zero l = refl
again (suc g) [] = refl
again (suc g) (x ∷ l) = go (eqb x 0) (again g l)
  where
    go : (t : Bool) → zeros (take g l) && zeros l ≡ zeros l → (t && zeros (take g l)) && (t && zeros l) ≡ t && zeros l
    go true later = later
    go false later = refl

two_parts : (g k : ℕ) (l : List ℕ) → k ≤ g → zeros (take g l) && zeros (drop k l) ≡ zeros l
unfolding zeros
two_parts g zero l h = again g l
two_parts zero (suc k) l h = absurd (omega arith)
two_parts (suc g) (suc k) [] h = refl
two_parts (suc g) (suc k) (x ∷ l) h = go (eqb x 0) (two_parts g k l (omega (arith, h)))
  where
    go : (t : Bool) → zeros (take g l) && zeros (drop k l) ≡ zeros l → (t && zeros (take g l)) && zeros (drop k l) ≡ t && zeros l
    go true later = later
    go false later = refl

-- what is past n, as its first half and its last half
pub halves : (l : List ℕ) (n half end last : ℕ) → n ≤ length l → half ≡ (length l - n + 1) / 2 → end ≡ n + half → last ≡ length l - half
    → zeros (take (end - n) (drop n l)) && zeros (take (length l - last) (drop last l)) ≡ zeros (drop n l)
halves l n half end last h eh ee el =
    let a : end - n ≡ half = omega (arith, ee) in
    let b : n + (last - n) ≡ last = omega (arith, h, eh, el) in
    let k : last - n ≤ half = omega (arith, h, eh, el) in
    let whole : take (length l - last) (drop last l) ≡ drop last l = take_all (length l - last) (drop last l) (omega (arith, length-drop last l)) in
    let later : drop last l ≡ drop (last - n) (drop n l) = sym (drop-drop (last - n) n l ∙ ap (λ (j : ℕ). drop j l) b) in
    ap (λ (j : ℕ). zeros (take j (drop n l)) && zeros (take (length l - last) (drop last l))) a
    ∙ ap (λ (m : List ℕ). zeros (take half (drop n l)) && zeros m) (whole ∙ later)
    ∙ two_parts half (last - n) (drop n l) k

abbrev pub half : List ℕ → ℕ → ℕ
half l n = (length l - n + 1) / 2

pub both_halves : (l m : List ℕ) (n : ℕ) → (n ≤ length l) × (length m ≡ length l)
    → (zeros (take (n + half l n - n) (drop n l)) && zeros (take (length l - (length l - half l n)) (drop (length l - half l n) l)))
    && (zeros (take (n + half l n - n) (drop n m)) && zeros (take (length m - (length l - half l n)) (drop (length l - half l n) m)))
    ≡ zeros (drop n l) && zeros (drop n m)
both_halves l m n h =
    let first = halves l n (half l n) _ _ h.0 refl refl refl in
    let second =
    halves m n (half l n) (n + half l n) (length l - half l n) (omega (arith, h.0, h.1)) (ap (λ (k : ℕ). (k - n + 1) / 2) (sym h.1)) refl (ap (λ (k : ℕ). k - half l n) (sym h.1))
    in
    ap (λ (t : Bool). t && (zeros (take (n + half l n - n) (drop n m)) && zeros (take (length m - (length l - half l n)) (drop (length l - half l n) m)))) first
    ∙ ap (λ (t : Bool). zeros (drop n l) && t) second
