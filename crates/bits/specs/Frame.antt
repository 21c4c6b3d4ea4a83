-- Bits in a frame, in document 01's words. A frame is a list of bytes, byte 0 first. Assumes nothing.
use Rattle.std.specs.Prelude.{List, ℕ, zero, suc, ◌+◌, ◌*◌, ◌/◌, ◌%◌, ◌^◌, ◌<◌, get_or, length, ◌≡◌}

-- "Bytes are 0 to 7"
abbrev pub frame_bytes : ℕ
frame_bytes = 8

-- of 8 bits each
abbrev pub frame_bits : ℕ
frame_bits = 8 * frame_bytes

-- frame bit k: bit k mod 8 (weight 2^(k mod 8)) of byte k div 8
abbrev pub frame_bit : List ℕ → ℕ → ℕ
frame_bit frame k = get_or frame (k / 8) 0 / 2 ^ (k % 8) % 2

-- the raw count of a signal of b bits at start s: its weight 2^j is at frame bit s + j
unfoldable pub count_at : List ℕ → ℕ → ℕ → ℕ
count_at frame s zero = 0
count_at frame s (suc j) = count_at frame s j + frame_bit frame (s + j) * 2 ^ j

-- n bytes: as many entries, each below 256
pub record Bytes (n : ℕ) (frame : List ℕ) : Type 0 where
  pub many : length frame ≡ n
  pub small : (k : ℕ) → get_or frame k 0 < 256
