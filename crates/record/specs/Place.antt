-- A place is a bus with an identifier. One number stands for both, and each number of 32 bits is a place. Assumes nothing.
use Rattle.std.specs.Prelude.{◌≡◌, ℕ, ◌+◌, ◌*◌, ◌<◌, ◌/◌, ◌%◌}
use Rattle.std.proofs.Common.{arith}
use Rattle.record.specs.Limits.{bus_limit, identifier_limit}

-- the number of a place: bus x 2^29 + identifier
abbrev pub place_key : ℕ → ℕ → ℕ
place_key bus identifier = bus * identifier_limit + identifier

-- there are 2^32 places
abbrev pub place_limit : ℕ
place_limit = bus_limit * identifier_limit

-- the number says both the bus and the identifier
pub says_both : (bus identifier bus' identifier' : ℕ) → identifier < identifier_limit → identifier' < identifier_limit
    → place_key bus identifier ≡ place_key bus' identifier' → (bus ≡ bus') × (identifier ≡ identifier')
says_both bus identifier bus' identifier' l l' e = (omega arith, omega arith)

-- it is below the limit
pub key_fits : (bus identifier : ℕ) → bus < bus_limit → identifier < identifier_limit → place_key bus identifier < place_limit
key_fits bus identifier b l = omega arith

-- and each number below the limit is that of a place
pub key_place : (key : ℕ) → key < place_limit
    → (key / identifier_limit < bus_limit) × (key % identifier_limit < identifier_limit) × (place_key (key / identifier_limit) (key % identifier_limit) ≡ key)
key_place key l = (omega arith, omega arith, omega arith)
