-- The three relays as one number, for the code that runs: main negative counts 4, precharge 2 and main positive 1, once where it is open
-- and twice where it is closed. Assumes nothing.
use Rattle.std.specs.Prelude.{ℕ, ◌+◌, ◌*◌}
use Rattle.power.specs.declared.Observation.{Observation}

abbrev pub relays_number : Observation → ℕ
relays_number seen = 4 * seen.main_negative.0 + 2 * seen.precharge.0 + seen.main_positive.0
