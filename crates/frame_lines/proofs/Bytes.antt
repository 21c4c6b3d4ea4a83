-- What digits after an identifier say, test by test. Assumes nothing.
use mathlib.Core.Path.{◌≡◌}
use mathlib.Core.Bool.{true, false}
use mathlib.Core.List.{List}
use Prim.Native.Nat.{ℕ, ◌%◌, ◌≤◌, ◌<◌}
use native.Mathlib.Omega.{arith}
use lib.ListN.{length}
use borrow.Author.Tests.{le-leb, lt-leb, eq-eqb, ne_eqb}
use Rattle.std.specs.Prelude.{Some}
use Rattle.bits.specs.Word.{word_of}
use Rattle.frame_lines.specs.declared.FrameLine.TheVariants.{Frame, NotEightBytes, IllFormed}
use Rattle.frame_lines.specs.Meaning.{all_digits_spec, are_bytes, bytes_in, said_by}
use Rattle.frame_lines.specs.Told.{told}
use Rattle.frame_lines.proofs.Digits.{length_bytes}

module _ (i : ℕ) (l : List ℕ) where
  pub too_long : 16 < length l → IllFormed ≡ told (said_by (Some i) l)
  unfolding are_bytes
  too_long h = rw (lt-leb (length l) 16 h)

  module _ (h : length l ≤ 16) where
    pub odd : (length l % 2 ≡ 0 → ⊥) → IllFormed ≡ told (said_by (Some i) l)
    unfolding are_bytes
    odd o = rw (le-leb (length l) 16 h, ne_eqb (length l % 2) 0 o)

    module _ (even : length l % 2 ≡ 0) where
      pub no_digits : all_digits_spec l ≡ false → IllFormed ≡ told (said_by (Some i) l)
      unfolding are_bytes
      no_digits z = rw (le-leb (length l) 16 h, eq-eqb (length l % 2) 0 even, z)

      module _ (z : all_digits_spec l ≡ true) where
        well : are_bytes l ≡ true
        unfolding are_bytes
        well = rw (le-leb (length l) 16 h, eq-eqb (length l % 2) 0 even, z)

        pub fewer : length l < 16 → NotEightBytes i ≡ told (said_by (Some i) l)
        fewer f = rw (well, ne_eqb (length (bytes_in l)) 8 (λ x. omega (arith, length_bytes l even)))

        pub eight : 16 ≤ length l → {w : ℕ} → w ≡ word_of (bytes_in l) → Frame i w ≡ told (said_by (Some i) l)
        eight f q = rw (well, eq-eqb (length (bytes_in l)) 8 (omega (arith, length_bytes l even)), ← q)
