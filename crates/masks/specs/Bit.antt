-- A mask's bits, and whether two masks meet. Assumes nothing: these are definitions.
use Rattle.std.specs.Prelude.{Bool, not, ℕ, ◌/◌, ◌%◌, ◌^◌, eqb}
use Rattle.std.specs.Int.Bits.{bit_and}

-- a mask is one word of 64 bits
abbrev pub width : ℕ
width = 64

-- bit k of m
unfoldable pub bit : ℕ → ℕ → Bool
bit m k = eqb (m / 2 ^ k % 2) 1

-- a and b have a bit in common
unfoldable pub meeting : ℕ → ℕ → Bool
meeting a b = not (eqb (bit_and a b) 0)
