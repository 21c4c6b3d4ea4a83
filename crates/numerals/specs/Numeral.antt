-- "Identifiers: exactly 8 digits 0-9 A-F. Other numbers: 1 to 5 decimal digits, no needless leading zero."
-- Assumes nothing.
use Rattle.std.specs.Prelude.{ℕ, ◌+◌, ◌-◌, ◌*◌, Bool, false, cond, List, [], ◌∷◌, eqb, ltb, length, get_or, Option, Some, None}

-- the value of a digit, bytes 48 to 57 (0-9) and 65 to 70 (A-F); 16 for a byte that is none
unfoldable pub digit_value : ℕ → ℕ
digit_value b =
    cond (ltb b 48) 16 (cond (ltb b 58) (b - 48) (cond (ltb b 65) 16 (cond (ltb b 71) (b - 55) 16)))

-- the number that digits of a base write, after digits of the value v
unfoldable pub numeral_from : ℕ → ℕ → List ℕ → Option ℕ
numeral_from base v [] = Some v
numeral_from base v (b ∷ t) =
    cond (ltb (digit_value b) base) (numeral_from base (v * base + digit_value b) t) None

abbrev pub identifier_digits : ℕ
identifier_digits = 8

-- exactly 8 digits 0-9 A-F
unfoldable pub identifier : List ℕ → Option ℕ
identifier l = cond (eqb (length l) identifier_digits) (numeral_from 16 0 l) None

-- a number, and 0 for none
abbrev pub or_zero : Option ℕ → ℕ
or_zero (Some n) = n
or_zero None = 0

-- the byte of the digit 0; no byte below it is a digit
abbrev pub zero_byte : ℕ
zero_byte = 48

-- more than one digit, and the first is 0
unfoldable pub needless_zero : List ℕ → Bool
needless_zero l = cond (ltb 1 (length l)) (eqb (get_or l 0 0) zero_byte) false

abbrev pub decimal_digits : ℕ
decimal_digits = 5

-- 1 to 5 decimal digits, no needless leading zero
unfoldable pub decimal : List ℕ → Option ℕ
decimal l =
    cond (ltb (length l) 1) None (cond (ltb decimal_digits (length l)) None (cond (needless_zero l) None (numeral_from 10 0 l)))
