-- The slots that `distinct` marks as it passes identifiers: how it works, and no promise. Assumes nothing: these are definitions.
use Rattle.std.specs.Prelude.{ℕ, ◌%◌}

-- how many slots there are
abbrev pub identifier_slots : ℕ
identifier_slots = 256

-- the largest prime below their count
abbrev pub slot_prime : ℕ
slot_prime = 251

-- the slot of an identifier: its remainder, so that neighbours fall into different ones
abbrev pub identifier_slot : ℕ → ℕ
identifier_slot identifier = identifier % slot_prime
