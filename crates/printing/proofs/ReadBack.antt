-- A number in decimal is read back, has no needless zero, and is the one text that is so. Assumes nothing.
use mathlib.Core.Path.{◌≡◌, refl, sym, ap, ◌∙◌}
use mathlib.Core.Bool.{false}
use mathlib.Core.List.{List, [], ◌∷◌}
use Prim.Native.Nat.{ℕ, zero, suc, ◌≤◌}
use native.Mathlib.Omega.{arith}
use lib.ListN.{length, get_or}
use Rattle.std.specs.Prelude.{Some}
use Rattle.numerals.specs.Numeral.{numeral_from, needless_zero}
use Rattle.numerals.specs.Written.{digits_of_spec}
use Rattle.numerals.proofs.Digits.{numeral_read, NumeralText, numeral_written}
use Rattle.numerals.proofs.Decimals.{written_well, not_less}
use Rattle.printing.specs.Decimal.{digit_count_spec, natural_text}
use Rattle.printing.proofs.Counting.{Sized, count_holds, count_some, count_sized, sized_count}

pub natural_read : (n : ℕ) → numeral_from 10 0 (natural_text n) ≡ Some n
unfolding natural_text
natural_read n = numeral_read 10 (omega arith) (omega arith) (digit_count_spec n) n (count_holds n)

pub natural_well : (n : ℕ) → needless_zero (natural_text n) ≡ false
unfolding natural_text
natural_well n = go (digit_count_spec n) refl
  where
    go : (d : ℕ) → digit_count_spec n ≡ d → needless_zero (digits_of_spec 10 d n) ≡ false
    go zero e = absurd (omega (arith, count_some n))
    go (suc k) e = let s : Sized n k = count_sized n k e in written_well n k s.below s.above

pub natural_only : (l : List ℕ) (n : ℕ) → 1 ≤ length l → needless_zero l ≡ false → numeral_from 10 0 l ≡ Some n → l ≡ natural_text n
unfolding natural_text digits_of_spec
natural_only [] n h z e = absurd (omega arith)
natural_only (b ∷ t) n h z e =
    let w : NumeralText 10 (b ∷ t) (suc (length t)) n = numeral_written 10 (omega arith) (omega arith) (b ∷ t) (suc (length t)) n refl e in
    let s : Sized n (length t) = record { below = w.fits; above = not_less b t n z (ap (λ (l : List ℕ). get_or l 0 0) w.text) } in
    w.text ∙ ap (λ (d : ℕ). digits_of_spec 10 d n) (sym (sized_count n (length t) s))
