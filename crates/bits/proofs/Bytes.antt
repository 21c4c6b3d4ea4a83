-- The bytes of a number as std has them, by their worths, are those that specs/Word.antt takes one by one. Assumes nothing.
use mathlib.Core.Path.{◌≡◌}
use mathlib.Core.List.{List}
use Prim.Native.Nat.{ℕ, ◌/◌, ◌%◌}
use native.Mathlib.Omega.{arith}
use Rattle.std.specs.Int.{w64, from_le_bytes, to_le_bytes}
use Rattle.bits.specs.Word.{word_from, word_of, bytes_from, bytes_of}

-- the sum by worths is the nested sum
pub word_by_worth : (frame : List ℕ) → from_le_bytes w64 frame ≡ word_of frame
unfolding word_of word_from
word_by_worth frame = omega arith

-- each byte, shifted down at once, is the one that is taken off
pub bytes_by_worth : (w : ℕ) → to_le_bytes w64 w ≡ bytes_of w
unfolding bytes_from
bytes_by_worth w =
    let b2 : w / 65536 % 256 ≡ w / 256 / 256 % 256 = omega arith in
    let b3 : w / 16777216 % 256 ≡ w / 256 / 256 / 256 % 256 = omega arith in
    let b4 : w / 4294967296 % 256 ≡ w / 256 / 256 / 256 / 256 % 256 = omega arith in
    let b5 : w / 1099511627776 % 256 ≡ w / 256 / 256 / 256 / 256 / 256 % 256 = omega arith in
    let b6 : w / 281474976710656 % 256 ≡ w / 256 / 256 / 256 / 256 / 256 / 256 % 256 = omega arith in
    let b7 : w / 72057594037927936 % 256 ≡ w / 256 / 256 / 256 / 256 / 256 / 256 / 256 % 256 = omega arith in
    cc (b2, b3, b4, b5, b6, b7)
