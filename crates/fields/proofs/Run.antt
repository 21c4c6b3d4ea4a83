-- Decimal digits up to a byte, one at a time: the answer for the rest, after the value of the digits passed, is the answer for
-- the whole. Assumes nothing.
use mathlib.Core.Path.{◌≡◌, refl, sym, ap, ◌∙◌}
use mathlib.Core.Bool.{Bool, true, false, cond}
use mathlib.Core.List.{List, [], ◌∷◌}
use Prim.Native.Nat.{ℕ, suc, ◌+◌, ◌*◌, ◌^◌, ◌≤◌, ◌<◌}
use native.Mathlib.Nat.{add-zero, add-suc, suc-add, zero-add, pow-zero, lt_of_lt_of_le, pow-le-pow_right}
use native.Mathlib.Numerals.{add-one}
use native.Mathlib.Omega.{arith}
use lib.Dec.{eqb, ltb}
use lib.ListN.{length, take, drop, get_or, drop_of_length-le}
use lib.Seq.{drop-cons, length-take-le, get_or-take}
use borrow.Author.Tests.{eq-eqb, ne_eqb, lt-ltb, le-ltb, ltb-true, ltb-false}
use Rattle.std.specs.Prelude.{Option, Some, None}
use Rattle.numerals.specs.Numeral.{digit_value, numeral_from, needless_zero, decimal}
use Rattle.numerals.proofs.Reading.{grows}
use Rattle.parts.specs.Parts.{index_of}
use Rattle.fields.specs.Front.{of_digits, number_before}

-- the digits of the rest up to `stop`, after i digits of the value v
unfoldable pub run_from : ℕ → ℕ → ℕ → List ℕ → Option (ℕ × ℕ)
run_from stop v i [] = None
run_from stop v i (b ∷ l) =
    cond (eqb b stop) (Some (v, i)) (cond (ltb (digit_value b) 10) (run_from stop (v * 10 + digit_value b) (suc i) l) None)

-- 1 to 5 of them, and no needless zero before them
unfoldable pub checked : List ℕ → Option (ℕ × ℕ) → Option (ℕ × ℕ)
checked text None = None
checked text (Some (v, i)) =
    cond (ltb i 1) None (cond (ltb 5 i) None (cond (needless_zero (take i text)) None (Some (v, i))))

run_none : (stop v i : ℕ) (l : List ℕ) → length l ≤ index_of stop l → run_from stop v i l ≡ None
unfolding run_from index_of
run_none stop v i [] h = refl
run_none stop v i (b ∷ l) h = by (eqb b stop) (ltb (digit_value b) 10) h (run_none stop (v * 10 + digit_value b) (suc i) l)
  where
    by : (p q : Bool) → suc (length l) ≤ cond p 0 (suc (index_of stop l)) → (length l ≤ index_of stop l → run_from stop (v * 10 + digit_value b) (suc i) l ≡ None)
        → cond p (Some (v, i)) (cond q (run_from stop (v * 10 + digit_value b) (suc i) l) None) ≡ None
    by true q h r = absurd (omega arith)
    by false true h r = r (omega arith)
    by false false h r = refl

run_found : (stop v i : ℕ) (l : List ℕ) → index_of stop l < length l
    → run_from stop v i l ≡ of_digits (numeral_from 10 v (take (index_of stop l) l)) (i + index_of stop l)
unfolding run_from index_of numeral_from
run_found stop v i [] h = absurd (omega arith)
run_found stop v i (b ∷ l) h = by (eqb b stop) (ltb (digit_value b) 10) refl h (run_found stop (v * 10 + digit_value b) (suc i) l)
  where
    by : (p q : Bool) → ltb (digit_value b) 10 ≡ q → cond p 0 (suc (index_of stop l)) < suc (length l)
        → (index_of stop l < length l → run_from stop (v * 10 + digit_value b) (suc i) l ≡ of_digits (numeral_from 10 (v * 10 + digit_value b) (take (index_of stop l) l)) (suc i + index_of stop l))
        → cond p (Some (v, i)) (cond q (run_from stop (v * 10 + digit_value b) (suc i) l) None)
        ≡ of_digits (numeral_from 10 v (take (cond p 0 (suc (index_of stop l))) (b ∷ l))) (i + cond p 0 (suc (index_of stop l)))
    by true q e h r = ap (λ (k : ℕ). Some (v, k)) (sym (add-zero i))
    by false true e h r = rw e (r (omega arith) ∙ ap (of_digits (numeral_from 10 (v * 10 + digit_value b) (take (index_of stop l) l))) (omega (arith, add-suc i (index_of stop l), suc-add i (index_of stop l))))
    by false false e h r = rw e

-- the form of a number, tested before or after its digits are read
check_digits : (text l : List ℕ) (k : ℕ) → l ≡ take k text → length l ≡ k → of_digits (decimal l) k ≡ checked text (of_digits (numeral_from 10 0 l) k)
unfolding decimal checked
check_digits text l k e s = by (numeral_from 10 0 l) (ltb k 1) (ltb 5 k) (needless_zero l) refl refl refl
  where
    by : (n : Option ℕ) (a b z : Bool) → ltb k 1 ≡ a → ltb 5 k ≡ b → needless_zero l ≡ z
        → of_digits (cond (ltb (length l) 1) None (cond (ltb 5 (length l)) None (cond (needless_zero l) None n))) k ≡ checked text (of_digits n k)
    by None true b z p q r = rw (s, p)
    by None false true z p q r = rw (s, p, q)
    by None false false true p q r = rw (s, p, q, r)
    by None false false false p q r = rw (s, p, q, r)
    by (Some v) true b z p q r = rw (s, p)
    by (Some v) false true z p q r = rw (s, p, q)
    by (Some v) false false true p q r = rw (s, p, q, ← e, r)
    by (Some v) false false false p q r = rw (s, p, q, ← e, r)

before_is : (stop : ℕ) (text : List ℕ) → number_before decimal stop text ≡ checked text (run_from stop 0 0 text)
unfolding number_before checked
before_is stop text = by (ltb (index_of stop text) (length text)) refl
  where
    by : (q : Bool) → ltb (index_of stop text) (length text) ≡ q
        → cond q (of_digits (decimal (take (index_of stop text) text)) (index_of stop text)) None ≡ checked text (run_from stop 0 0 text)
    by true q =
        let h : index_of stop text < length text = ltb-true _ _ q in
        let s : length (take (index_of stop text) text) ≡ index_of stop text = length-take-le _ _ (omega arith) in
        rw (run_found stop 0 0 text h, zero-add (index_of stop text)) (check_digits text _ (index_of stop text) refl s)
    by false q = rw (run_none stop 0 0 text (ltb-false _ _ q))

-- over 5 digits
too_many : (stop v i : ℕ) (text l : List ℕ) → 5 < i → checked text (run_from stop v i l) ≡ None
unfolding run_from checked
too_many stop v i text [] h = refl
too_many stop v i text (b ∷ l) h = by (eqb b stop) (ltb (digit_value b) 10) (too_many stop (v * 10 + digit_value b) (suc i) text l (omega arith))
  where
    full : checked text (Some (v, i)) ≡ None
    full = let few : 1 ≤ i = omega arith in rw (le-ltb _ _ few, lt-ltb _ _ h)

    by : (p q : Bool) → checked text (run_from stop (v * 10 + digit_value b) (suc i) l) ≡ None
        → checked text (cond p (Some (v, i)) (cond q (run_from stop (v * 10 + digit_value b) (suc i) l) None)) ≡ None
    by true q r = full
    by false true r = r
    by false false r = refl

-- i digits of the text are passed, and their value is v
pub record Passed (text : List ℕ) (stop v i : ℕ) : Type 0 where
  pub answer : checked text (run_from stop v i (drop i text)) ≡ number_before decimal stop text
  pub below : v < 10 ^ i
  pub few : i ≤ 5
  pub within : i ≤ length text

pub none_passed : (text : List ℕ) (stop : ℕ) → Passed text stop 0 0
none_passed text stop =
    record { answer = sym (before_is stop text); below = rw (pow-zero 10) (omega arith); few = omega arith; within = omega arith }

-- so it fits
pub small : {text : List ℕ} {stop v i : ℕ} → Passed text stop v i → v < 100000
small {text} {stop} {v} {i} p = lt_of_lt_of_le p.below (pow-le-pow_right {n = 10} (omega arith) {i = i} {j = 5} p.few)

first_of : (text : List ℕ) (i : ℕ) → 1 < i → i ≤ length text → needless_zero (take i text) ≡ eqb (get_or text 0 0) 48
unfolding needless_zero
first_of text i h w =
    let s : length (take i text) ≡ i = length-take-le i text w in
    let z : 0 < i = omega arith in
    rw (s, lt-ltb _ _ h, get_or-take i text 0 0 z)

module _ {text : List ℕ} {stop v i : ℕ} (p : Passed text stop v i) where
  pub no_stop : length text ≤ i → None ≡ number_before decimal stop text
  unfolding run_from checked
  no_stop h = rw (drop_of_length-le text h) at p.answer

  module _ (h : i < length text) where
    module _ (e : get_or text i 0 ≡ stop) where
      here : checked text (Some (v, i)) ≡ number_before decimal stop text
      unfolding run_from
      here = rw (drop-cons text i 0 h, eq-eqb _ _ e) at p.answer

      pub empty_field : i ≡ 0 → None ≡ number_before decimal stop text
      unfolding checked
      empty_field z = let f : i < 1 = omega arith in rw (lt-ltb _ _ f) at here

      pub zero_first : 1 < i → get_or text 0 0 ≡ 48 → None ≡ number_before decimal stop text
      unfolding checked
      zero_first m q =
          let f : 1 ≤ i = omega arith in
          let g : i ≤ 5 = p.few in
          rw (le-ltb _ _ f, le-ltb _ _ g, first_of text i m p.within, eq-eqb _ _ q) at here

      pub all_digits : (i ≡ 0 → ⊥) → (1 < i → get_or text 0 0 ≡ 48 → ⊥) → Some (v, i) ≡ number_before decimal stop text
      unfolding checked needless_zero
      all_digits z q = by (ltb 1 i) refl
        where
          f : 1 ≤ i
          f = omega arith

          g : i ≤ 5
          g = p.few

          s : length (take i text) ≡ i
          s = length-take-le i text p.within

          by : (r : Bool) → ltb 1 i ≡ r → Some (v, i) ≡ number_before decimal stop text
          by true r =
              let m : 1 < i = ltb-true _ _ r in
              let o : get_or (take i text) 0 0 ≡ 48 → ⊥ = λ e. q m (sym (get_or-take i text 0 0 (omega arith)) ∙ e) in
              rw (le-ltb _ _ f, le-ltb _ _ g, s, r, ne_eqb _ _ o) at here
          by false r = rw (le-ltb _ _ f, le-ltb _ _ g, s, r) at here

    module _ (n : get_or text i 0 ≡ stop → ⊥) where
      next : checked text (cond (ltb (digit_value (get_or text i 0)) 10) (run_from stop (v * 10 + digit_value (get_or text i 0)) (suc i) (drop (suc i) text)) None) ≡ number_before decimal stop text
      unfolding run_from
      next = rw (drop-cons text i 0 h, ne_eqb _ _ n) at p.answer

      pub six_digits : i ≡ 5 → None ≡ number_before decimal stop text
      unfolding checked
      six_digits f = by (ltb (digit_value (get_or text i 0)) 10) next
        where
          by : (q : Bool) → checked text (cond q (run_from stop (v * 10 + digit_value (get_or text i 0)) (suc i) (drop (suc i) text)) None) ≡ number_before decimal stop text
              → None ≡ number_before decimal stop text
          by true r = sym (too_many stop (v * 10 + digit_value (get_or text i 0)) (suc i) text (drop (suc i) text) (omega arith)) ∙ r
          by false r = r

      module _ (d : ℕ) (e : d ≡ digit_value (get_or text i 0)) where
        pub no_digit : 10 ≤ d → None ≡ number_before decimal stop text
        unfolding checked
        no_digit t = rw (← e, le-ltb _ _ t) at next

        pub one_passed : (i ≡ 5 → ⊥) → d < 10 → Passed text stop (v * 10 + d) (i + 1)
        one_passed f t =
            record {
              answer = rw add-one (rw (← e, lt-ltb _ _ t) at next);
              below = grows 10 v d i p.below t;
              few = omega (arith, p.few);
              within = omega arith;
            }
