-- "By house rule 503 sits at start 60 and 504 at start 56, nowhere else." Assumes nothing: these are definitions.
use Rattle.std.specs.Prelude.{ℕ}

-- the checksum of a message
abbrev pub checksum_number : ℕ
checksum_number = 503

abbrev pub checksum_start : ℕ
checksum_start = 60

-- the counter of a message
abbrev pub counter_number : ℕ
counter_number = 504

abbrev pub counter_start : ℕ
counter_start = 56
