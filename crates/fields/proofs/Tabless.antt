-- No number of a route book has a byte below the digits, so no tab and no newline. Assumes nothing.
use Prim.Native.Nat.{ℕ, zero, suc, ◌/◌, ◌%◌, ◌^◌, ◌<◌}
use Rattle.numerals.specs.Written.{digits_of_spec, identifier_text, decimal_text, decimal_width_spec}
use Rattle.numerals.proofs.Digits.{digit_byte_low}
use Rattle.parts.specs.Joined.{Lacks, none, more}

digits_free : (s : ℕ) → s < 48 → (base k n : ℕ) → Lacks s (digits_of_spec base k n)
unfolding digits_of_spec
digits_free s h base zero n = none
digits_free s h base (suc k) n = more (digit_byte_low s (n / base ^ k) h) (digits_free s h base k (n % base ^ k))

pub identifier_free : (s n : ℕ) → s < 48 → Lacks s (identifier_text n)
unfolding identifier_text
identifier_free s n h = digits_free s h 16 8 n

pub decimal_free : (s n : ℕ) → s < 48 → Lacks s (decimal_text n)
unfolding decimal_text
decimal_free s n h = digits_free s h 10 (decimal_width_spec n) n
