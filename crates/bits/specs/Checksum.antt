-- The checksum of a frame and its identifier, in document 01's words (001, note to table 5).
-- Assumes nothing.
use Rattle.std.specs.Prelude.{List, ℕ, ◌+◌, ◌/◌, ◌%◌, ◌^◌, get_or}

-- bytes 0 to 6 + the low four bits of byte 7
abbrev pub bytes_added_spec : List ℕ → ℕ
bytes_added_spec frame =
    get_or frame 0 0
    + get_or frame 1 0
    + get_or frame 2 0
    + get_or frame 3 0
    + get_or frame 4 0
    + get_or frame 5 0
    + get_or frame 6 0
    + get_or frame 7 0 % 16

-- the four identifier bytes
abbrev pub identifier_added_spec : ℕ → ℕ
identifier_added_spec identifier =
    identifier / 2 ^ 24 % 256 + identifier / 2 ^ 16 % 256 + identifier / 2 ^ 8 % 256 + identifier % 256

-- ((C div 64) mod 4 + C div 8 + C) mod 8
abbrev pub folded : ℕ → ℕ
folded C = (C / 64 % 4 + C / 8 + C) % 8

abbrev pub checksum_of : ℕ → List ℕ → ℕ
checksum_of identifier frame = folded (bytes_added_spec frame + identifier_added_spec identifier)
