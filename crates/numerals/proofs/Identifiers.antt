-- 8 hexadecimal digits and the numbers below 2^32 determine each other. Assumes nothing.
use mathlib.Core.Path.{◌≡◌, refl}
use mathlib.Core.Bool.{Bool, true, false, cond}
use mathlib.Core.List.{List}
use Prim.Native.Nat.{ℕ, ◌<◌}
use native.Mathlib.Omega.{arith}
use lib.Dec.{eqb}
use lib.ListN.{length}
use borrow.Author.Tests.{eq-eqb, eqb-true}
use Rattle.std.specs.Prelude.{Some, None}
use Rattle.numerals.specs.Numeral.{numeral_from, identifier}
use Rattle.numerals.specs.Written.{hexadecimal_limit, identifier_text, IdentifierWritten}
use Rattle.numerals.proofs.Digits.{length_digits, numeral_read, NumeralText, numeral_written}

pub length_identifier : (n : ℕ) → length (identifier_text n) ≡ 8
unfolding identifier_text
length_identifier n = length_digits 16 8 n

pub identifier_read : (n : ℕ) → n < hexadecimal_limit → identifier (identifier_text n) ≡ Some n
unfolding identifier identifier_text
identifier_read n h = rw (eq-eqb _ _ (length_digits 16 8 n)) (numeral_read 16 (omega arith) (omega arith) 8 n h)

pub identifier_written : (l : List ℕ) (n : ℕ) → identifier l ≡ Some n → IdentifierWritten l n
unfolding identifier identifier_text
identifier_written l n e = go (eqb (length l) 8) refl e
  where
    go : (b : Bool) → eqb (length l) 8 ≡ b → cond b (numeral_from 16 0 l) None ≡ Some n → IdentifierWritten l n
    go true q e =
        let w : NumeralText 16 l 8 n = numeral_written 16 (omega arith) (omega arith) l 8 n (eqb-true _ _ q) e in
        record { small = w.fits; text = w.text }
    go false q e = absurd (let z : ◌≡◌ {A = ℕ} 0 1 = cc in omega arith)
