-- The numbers of a route book as they are written: the one text that is read as each. Assumes nothing.
use Rattle.std.specs.Prelude.{ℕ, zero, suc, ◌+◌, ◌/◌, ◌%◌, ◌^◌, ◌<◌, cond, List, [], ◌∷◌, ltb, ◌≡◌}
use Rattle.numerals.specs.Numeral.{identifier_digits}

-- the byte of a digit below 16
unfoldable pub digit_byte_spec : ℕ → ℕ
digit_byte_spec d = cond (ltb d 10) (48 + d) (55 + d)

-- k digits of n in a base, the highest first
unfoldable pub digits_of_spec : ℕ → ℕ → ℕ → List ℕ
digits_of_spec base zero n = []
digits_of_spec base (suc k) n = digit_byte_spec (n / base ^ k) ∷ digits_of_spec base k (n % base ^ k)

-- what 8 hexadecimal digits can say is below this
abbrev pub hexadecimal_limit : ℕ
hexadecimal_limit = 4294967296

-- an identifier: 8 digits 0-9 A-F
unfoldable pub identifier_text : ℕ → List ℕ
identifier_text n = digits_of_spec 16 identifier_digits n

-- how many decimal digits a number below 100,000 has
unfoldable pub decimal_width_spec : ℕ → ℕ
decimal_width_spec n = cond (ltb n 10) 1 (cond (ltb n 100) 2 (cond (ltb n 1000) 3 (cond (ltb n 10000) 4 5)))

-- what 5 decimal digits can say is below this
abbrev pub decimal_limit : ℕ
decimal_limit = 100000

-- another number: its decimal digits, none needless
unfoldable pub decimal_text : ℕ → List ℕ
decimal_text n = digits_of_spec 10 (decimal_width_spec n) n

-- what is read as n is what is written for n
pub record DecimalWritten (l : List ℕ) (n : ℕ) : Type 0 where
  pub small : n < decimal_limit
  pub text : l ≡ decimal_text n

-- what is read as n is what is written for n
pub record IdentifierWritten (l : List ℕ) (n : ℕ) : Type 0 where
  pub small : n < hexadecimal_limit
  pub text : l ≡ identifier_text n
