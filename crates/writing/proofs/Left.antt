-- The loop that writes digits: writing what is left gives the final list. Assumes nothing.
use mathlib.Core.Path.{◌≡◌, refl, sym, ap, ◌∙◌}
use mathlib.Core.List.{List, [], ◌∷◌, ◌++◌}
use Prim.Native.Nat.{ℕ, zero, suc, ◌+◌, ◌-◌, ◌/◌, ◌%◌, ◌^◌, ◌≤◌, ◌<◌}
use native.Mathlib.Nat.{pow-suc, div-lt_iff_lt-mul}
use native.Mathlib.Omega.{arith}
use lib.ListN.{length, set}
use lib.Seq.{sets}
use Rattle.numerals.specs.Written.{digit_byte_spec, digits_of_spec}
use Rattle.numerals.proofs.Digits.{length_digits}
use Rattle.writing.specs.DigitRoom.{DigitRoom}
use Rattle.writing.proofs.Lowest.{digits_lowest, sets_last}

-- j digits of m are left to write at a place of out
pub record Left (old : List ℕ) (at k n base : ℕ) (out : List ℕ) (j m : ℕ) : Type 0 where
  pub rest : sets out at (digits_of_spec base j m) ≡ sets old at (digits_of_spec base k n)
  pub holds : m < base ^ j

pub all_left : (old : List ℕ) (at k n base : ℕ) → DigitRoom old at k n base → Left old at k n base old k n
all_left old at k n base r = record { rest = refl; holds = r.holds }

module _ {old : List ℕ} {at k n base : ℕ} {out : List ℕ} where
  pub none_left : (j m : ℕ) → Left old at k n base out j m → j ≤ 0 → out ≡ sets old at (digits_of_spec base k n)
  unfolding digits_of_spec
  none_left zero m l h = l.rest
  none_left (suc j) m l h = absurd (omega arith)

  pub one_less : (j m b : ℕ) → Left old at k n base out j m → 0 < j → 0 < base → b ≡ digit_byte_spec (m % base)
      → Left old at k n base (set out (at + (j - 1)) b) (j - 1) (m / base)
  one_less zero m b l h p e = absurd (omega arith)
  one_less (suc i) m b l h p e =
      let q : suc i - 1 ≡ i = omega arith in
      let s : length (digits_of_spec base i (m / base)) ≡ i = length_digits base i (m / base) in
      let digits : digits_of_spec base i (m / base) ++ (b ∷ []) ≡ digits_of_spec base (suc i) m = rw e (sym (digits_lowest base i m p l.holds)) in
      let put : sets (set out (at + i) b) at (digits_of_spec base i (m / base)) ≡ sets out at (digits_of_spec base (suc i) m) =
      ap (λ (x : ℕ). sets (set out (at + x) b) at (digits_of_spec base i (m / base))) (sym s)
      ∙ sets_last out at (digits_of_spec base i (m / base)) b
      ∙ ap (sets out at) digits in
      rw q
      (record {
        rest = put ∙ l.rest;
        holds = (div-lt_iff_lt-mul p).1 (rw pow-suc at l.holds);
      })
