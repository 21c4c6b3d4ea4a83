-- The word of a frame gathered from its digits, byte 0 first. Assumes nothing.
use mathlib.Core.Path.{◌≡◌, refl, sym, ap, ◌∙◌}
use mathlib.Core.Bool.{Bool, true}
use mathlib.Core.List.{List, [], ◌∷◌, ◌++◌}
use Prim.Native.Nat.{ℕ, zero, suc, ◌+◌, ◌*◌, ◌/◌, ◌%◌, ◌^◌, ◌≤◌, ◌<◌}
use native.Mathlib.Numerals.{add-one}
use native.Mathlib.Omega.{arith}
use lib.ListN.{length, drop, get_or, length-drop, drop_of_length-le}
use lib.Seq.{drop-cons, drop-drop}
use Rattle.std.proofs.lemmas.List.{get_or-drop}
use borrow.Author.Tests.{lt-ltb}
use Rattle.numerals.specs.Numeral.{digit_value}
use Rattle.bits.specs.Word.{word_of, word_from}
use Rattle.frame_lines.specs.Meaning.{all_digits_spec, bytes_in}
use Rattle.frame_lines.proofs.Digits.{byte_in}

-- n bytes of a frame, each put highest, above those before it
unfoldable pub stacked : List ℕ → ℕ → ℕ
stacked frame zero = 0
stacked frame (suc n) = stacked frame n / 256 + 256 ^ 7 * get_or frame n 0

-- eight of them are its word
stacked_word : (frame : List ℕ) → stacked frame 8 ≡ word_of frame
unfolding stacked word_of word_from
stacked_word f =
    let two : stacked f 2 ≡ 256 ^ 6 * word_from f 0 2 = omega arith in
    let three : stacked f 3 ≡ 256 ^ 5 * word_from f 0 3 = omega (arith, two) in
    let four : stacked f 4 ≡ 256 ^ 4 * word_from f 0 4 = omega (arith, three) in
    let five : stacked f 5 ≡ 256 ^ 3 * word_from f 0 5 = omega (arith, four) in
    let six : stacked f 6 ≡ 256 ^ 2 * word_from f 0 6 = omega (arith, five) in
    let seven : stacked f 7 ≡ 256 * word_from f 0 7 = omega (arith, six) in
    omega (arith, seven)

-- i bytes are read: the answer for the other digits is the answer for all, and w is what they make
pub record Gathered (l : List ℕ) (i w : ℕ) : Type 0 where
  pub inside : 2 * i ≤ length l
  pub digits : all_digits_spec (drop (2 * i) l) ≡ all_digits_spec l
  pub word : w ≡ stacked (bytes_in l) i
  pub small : w < 256 ^ 8

-- one digit more
digit_passed : (l : List ℕ) (k m : ℕ) → m ≡ suc k → k < length l → {d : ℕ} → d ≡ digit_value (get_or l k 0) → d < 16
    → {b : Bool} → all_digits_spec (drop k l) ≡ b → all_digits_spec (drop m l) ≡ b
unfolding all_digits_spec
digit_passed l k m n h v t r = rw n (rw (drop-cons l k 0 h, ← v, lt-ltb _ _ t) at r)

module _ (l : List ℕ) where
  pub none_gathered : Gathered l 0 0
  unfolding stacked
  none_gathered = record { inside = omega arith; digits = refl; word = refl; small = omega arith }

  -- one byte more
  pub one_gathered : (i w : ℕ) → Gathered l i w → i < length l / 2
      → {a b : ℕ} → a ≡ digit_value (get_or l (2 * i) 0) → b ≡ digit_value (get_or l (2 * i + 1) 0)
      → a < 16 → b < 16 → Gathered l (i + 1) (w / 256 + 256 ^ 7 * (16 * a + b))
  unfolding stacked
  one_gathered i w g h {a} {b} p q s t =
      record {
        inside = omega arith;
        digits =
            digit_passed l (2 * i + 1) (2 * (i + 1)) (omega arith) (omega arith) q t
            (digit_passed l (2 * i) (2 * i + 1) (omega arith) (omega arith) p s g.digits);
        word = rw (add-one, byte_in l i (omega arith), ← p, ← q, ← g.word) refl;
        small = omega (arith, g.small);
      }

  module _ {i w : ℕ} (g : Gathered l i w) (h : length l / 2 ≤ i) (even : length l % 2 ≡ 0) where
    pub all_digits : all_digits_spec l ≡ true
    unfolding all_digits_spec
    all_digits = sym (rw (drop_of_length-le l {i = 2 * i} (omega arith)) at g.digits)

    pub gathered : length l ≡ 16 → w ≡ word_of (bytes_in l)
    gathered s =
        let e : i ≡ 8 = omega (arith, g.inside) in
        rw e at g.word ∙ stacked_word (bytes_in l)

-- the next pair of digits, and what is left after it
pub record Pair (l pair rest : List ℕ) (i : ℕ) : Type 0 where
  pub more : i < length l / 2
  pub high : get_or pair 0 0 ≡ get_or l (2 * i) 0
  pub low : get_or pair 1 0 ≡ get_or l (2 * i + 1) 0
  pub left : rest ≡ drop (2 * (i + 1)) l

pub next_pair : (l before pair rest : List ℕ) (i : ℕ) → before ≡ drop (2 * i) l → before ≡ pair ++ rest → length pair ≡ 2 → Pair l pair rest i
next_pair l before [] rest i d e s = absurd (omega arith)
next_pair l before (a ∷ []) rest i d e s = absurd (omega arith)
next_pair l before (a ∷ b ∷ c ∷ t) rest i d e s = absurd (omega arith)
next_pair l before (a ∷ b ∷ []) rest i d e s =
    let f : drop (2 * i) l ≡ a ∷ b ∷ rest = sym d ∙ e in
    let k : 2 * i + 0 ≡ 2 * i = omega arith in
    let m : 2 * i + 2 ≡ 2 * (i + 1) = omega arith in
    record {
      more = omega (arith, length-drop (2 * i) l, ap length f);
      high = sym (ap (λ (x : List ℕ). get_or x 0 0) f) ∙ get_or-drop (2 * i) l 0 0 ∙ ap (λ (n : ℕ). get_or l n 0) k;
      low = sym (ap (λ (x : List ℕ). get_or x 1 0) f) ∙ get_or-drop (2 * i) l 1 0;
      left = sym (ap (drop 2) f) ∙ drop-drop 2 (2 * i) l ∙ ap (λ (n : ℕ). drop n l) m;
    }

pub last_pair : (l rest : List ℕ) (i : ℕ) → rest ≡ drop (2 * i) l → length rest < 2 → length l / 2 ≤ i
last_pair l rest i d h = omega (arith, length-drop (2 * i) l, ap length d)
