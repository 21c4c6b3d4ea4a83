-- The working side of a frame: its bytes as one number, whose bits the code takes and puts. proofs/Weights.antt says
-- that they are the frame's (`weights`). Assumes nothing.
use Rattle.std.specs.Prelude.{List, [], ◌∷◌, ℕ, zero, suc, ◌+◌, ◌-◌, ◌*◌, ◌/◌, ◌%◌, ◌^◌, ◌≤◌, get_or}
use Rattle.rows.specs.Rule.{most_bits}
use Rattle.bits.specs.Frame.{frame_bytes, frame_bits}

-- a signal of b bits, as many as a row may have, at start s lies within a frame
pub record Fits (s b : ℕ) : Type 0 where
  pub some : 1 ≤ b
  pub most : b ≤ most_bits
  pub inside : s + b ≤ frame_bits

-- n bytes of a frame from byte i on, as one number, byte i lowest
unfoldable pub word_from : List ℕ → ℕ → ℕ → ℕ
word_from frame i zero = 0
word_from frame i (suc n) = get_or frame i 0 + 256 * word_from frame (suc i) n

-- the eight bytes of a frame as one number
unfoldable pub word_of : List ℕ → ℕ
word_of frame = word_from frame 0 frame_bytes

-- the n lowest bytes of a number, the lowest first
unfoldable pub bytes_from : ℕ → ℕ → List ℕ
bytes_from zero w = []
bytes_from (suc n) w = w % 256 ∷ bytes_from n (w / 256)

-- the frame of a number
abbrev pub bytes_of : ℕ → List ℕ
bytes_of w = bytes_from frame_bytes w

-- b bits of a number from bit s on
unfoldable pub field_of : ℕ → ℕ → ℕ → ℕ
field_of w s b = w / 2 ^ s % 2 ^ b

-- the number w, with v in place of its b bits from bit s on
unfoldable pub placed : ℕ → ℕ → ℕ → ℕ → ℕ
placed w s b v = w - field_of w s b * 2 ^ s + v * 2 ^ s
