-- The power call in numbers as it was before P6 of document 02, for the law that compares (proofs/PowerBefore.antt); nothing else rests on
-- it. Assumes nothing.
use Rattle.std.specs.Prelude.{ℕ, List, Option, Some, None}
use Rattle.power.specs.declared.State.{State}
use Rattle.power.specs.States.{state_numbered}
use Rattle.power.specs.Before.{step_before_p6}
use Rattle.punnetcrest.specs.Powering.{not_a_power_state, seen_in, stepped_in_numbers}

-- the step before P6 looks at no share, so any may stand in the observation
abbrev pub stepped_from_before_p6 : Option State → ℕ → List ℕ → ℕ × ℕ
stepped_from_before_p6 (Some from) kept seen = stepped_in_numbers (step_before_p6 from (seen_in seen None))
stepped_from_before_p6 None kept seen = (not_a_power_state, kept)

-- pc_power_step, as it was
abbrev pub stepped_before_p6 : ℕ → List ℕ → ℕ × ℕ
stepped_before_p6 state seen = stepped_from_before_p6 (state_numbered state) state seen
