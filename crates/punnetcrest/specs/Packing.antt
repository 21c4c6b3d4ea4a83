-- Packing a frame in numbers: what the call returns, with the lent frame as it leaves it. Assumes nothing.
use Rattle.std.specs.Prelude.{ℕ, List, Result}
use Rattle.framing.specs.declared.PackRefusal.{PackRefusal}
use Rattle.framing.specs.Packing.{packing_number, packing}

abbrev pub packed_in_numbers : Result (Unit {0}) PackRefusal × List ℕ → ℕ × List ℕ
packed_in_numbers out = (packing_number out.0, out.1)

-- pc_frame_pack
abbrev pub packed : List ℕ → ℕ → List ℕ → List ℕ → ℕ × List ℕ
packed words identifier values frame = packed_in_numbers (packing words identifier values frame)
