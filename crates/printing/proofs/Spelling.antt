-- Numbers as they are written: their digits, and a minus sign before those below 0. Assumes nothing.
use mathlib.Core.Path.{◌≡◌, sym, ap, ◌∙◌, subst⁻¹}
use mathlib.Core.List.{List, [], ◌∷◌, ◌++◌}
use Prim.Native.Nat.{ℕ, suc, ◌+◌, ◌^◌, ◌≤◌, ◌<◌}
use native.Mathlib.Omega.{arith}
use lib.IntN.{ℤ, pos, negsuc, nat_abs}
use lib.ListN.{length}
use lib.Seq.{sets}
use mir.Syntax.{w64}
use mir.Val.{SFits}
use Rattle.numerals.specs.Written.{digits_of_spec}
use Rattle.numerals.proofs.Digits.{length_digits}
use Rattle.printing.specs.Put.{Put}
use Rattle.printing.specs.Decimal.{digit_count_spec, natural_text, natural_room, minus_sign, signed_text, signed_room}
use Rattle.printing.proofs.Puts.{and_then}
use Rattle.printing.proofs.Counting.{count_few}
use Rattle.printing.proofs.Signs.{Negative, Positive}

pub natural_long : (n : ℕ) → length (natural_text n) ≡ digit_count_spec n
unfolding natural_text
natural_long n = length_digits 10 (digit_count_spec n) n

pub natural_few : (n : ℕ) → n < 2 ^ 64 → length (natural_text n) ≤ natural_room
natural_few n h = omega (arith, natural_long n, count_few n h)

pub signed_few : (z : ℤ) → SFits w64 z → length (signed_text z) ≤ signed_room
signed_few (pos n) f = omega (arith, natural_few n (omega (arith, f.sfits)))
signed_few (negsuc n) f = omega (arith, natural_few (suc n) (omega (arith, f.sfits)))

pub natural_put : {old new : List ℕ} {at k : ℕ} (n : ℕ) → k ≡ digit_count_spec n → new ≡ sets old at (digits_of_spec 10 k n) → Put old at (natural_text n) new (at + k)
unfolding natural_text
natural_put {old} {new} {at} {k} n e p =
    record { now_there = rw (← e) p; now_at = omega (arith, e, length_digits 10 (digit_count_spec n) n) }

module _ {old new : List ℕ} {at next n : ℕ} {z : ℤ} (e : n ≡ nat_abs z) where
  pub negative_put : Negative z → {mid : List ℕ} {m : ℕ} → Put old at (minus_sign ∷ []) mid m → Put mid m (natural_text n) new next → Put old at (signed_text z) new next
  negative_put s p q =
      let t : signed_text z ≡ (minus_sign ∷ []) ++ natural_text n = ap signed_text s.is ∙ ap (λ (k : ℕ). minus_sign ∷ natural_text k) (sym (e ∙ ap nat_abs s.is)) in
      subst⁻¹ (λ (l : List ℕ). Put old at l new next) t (and_then p q)

  pub positive_put : Positive z → Put old at (natural_text n) new next → Put old at (signed_text z) new next
  positive_put s p =
      let t : signed_text z ≡ natural_text n = ap signed_text s.is ∙ ap natural_text (sym (e ∙ ap nat_abs s.is)) in
      subst⁻¹ (λ (l : List ℕ). Put old at l new next) t p
