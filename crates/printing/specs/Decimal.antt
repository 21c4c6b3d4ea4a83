-- Numbers in decimal, of any size and sign. Assumes nothing.
use Rattle.std.specs.Prelude.{cond, List, ◌∷◌, ℕ, zero, suc, ◌/◌, ltb, ℤ, pos, negsuc}
use Rattle.numerals.specs.Written.{digits_of_spec}

-- one digit, and one more for each time that n can be divided by ten before it is below ten; the first number only bounds how often
unfoldable pub digits_within : ℕ → ℕ → ℕ
digits_within zero n = 1
digits_within (suc most) n = cond (ltb n 10) 1 (suc (digits_within most (n / 10)))

-- how many decimal digits a number has: ten divides out of it less often than it is large
unfoldable pub digit_count_spec : ℕ → ℕ
digit_count_spec n = digits_within n n

-- a number in decimal, without a needless zero: proofs/ReadBack.antt says that it is read as the number, and no other such text is
unfoldable pub natural_text : ℕ → List ℕ
natural_text n = digits_of_spec 10 (digit_count_spec n) n

-- no number of 64 bits has more digits
abbrev pub natural_room : ℕ
natural_room = 20

abbrev pub minus_sign : ℕ
minus_sign = 45

-- a number with its sign: a minus before one below 0
abbrev pub signed_text : ℤ → List ℕ
signed_text (pos n) = natural_text n
signed_text (negsuc n) = minus_sign ∷ natural_text (suc n)

-- nor more bytes with its sign
abbrev pub signed_room : ℕ
signed_room = suc natural_room
