-- `bits::bytes_added` meets its contract: each byte is that of the frame.
-- Assumes nothing.
use mathlib.Core.Path.{◌≡◌, ap, ◌∙◌}
use mathlib.Core.List.{List}
use Prim.Native.Nat.{ℕ}
use native.Mathlib.Omega.{arith}
use lib.ListN.{get_or}
use Rattle.bits.specs.Word.{bytes_from, bytes_of}
use Rattle.bits.proofs.Bytes.{bytes_by_worth}
use Rattle.bits.proofs.bytes_added.Goals as goal

pub returns : goal.returns
unfolding bytes_from
returns c =
    let bytes = c.to_le_bytes-bytes.result in
    let byte : (i : ℕ) → get_or bytes i 0 ≡ get_or (bytes_of c.args.word) i 0 =
    λ i. ap (λ (l : List ℕ). get_or l i 0) (c.to_le_bytes-bytes.ensures ∙ bytes_by_worth c.args.word) in (
      omega (arith, byte 0, byte 1, byte 2, byte 3, byte 4, byte 5, byte 6, byte 7),
      omega (arith, byte 0, byte 1, byte 2, byte 3, byte 4, byte 5, byte 6, byte 7),
    )
