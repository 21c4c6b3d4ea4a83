-- The power monitor in numbers: what a call returns, with *state as it leaves it. Assumes nothing.
use Rattle.std.specs.Prelude.{ℕ, List, get_or, Option, Some, None}
use Rattle.catalogue.specs.declared.Raw.{Raw}
use Rattle.power.specs.declared.Observation.{Observation}
use Rattle.power.specs.declared.State.{State}
use Rattle.power.specs.Shares.{Share}
use Rattle.power.specs.States.{state_number, state_numbered}
use Rattle.power.specs.Rules.{starts_as}
use Rattle.power.specs.Refusals.{Stepped, power_refusal, step_of}

-- PC_POWER_START, the first *state: "A monitor starts off"
abbrev pub power_start : ℕ
power_start = state_number starts_as

-- 91, the face's own refusal: *state is no state's number
abbrev pub not_a_power_state : ℕ
not_a_power_state = 91

-- the observation that is lent as eight raw counts: the relays 302, 303 and 301, then 1601, 1604, 203, 201 and 202; and the share with it
abbrev seen_at : List ℕ → ℕ → Raw
seen_at seen place = record { 0 = get_or seen place 0 }

abbrev pub seen_in : List ℕ → Share → Observation
seen_in seen share =
    record {
      main_negative = seen_at seen 0;
      precharge = seen_at seen 1;
      main_positive = seen_at seen 2;
      command = seen_at seen 3;
      emergency_off = seen_at seen 4;
      current = seen_at seen 5;
      inside = seen_at seen 6;
      outside = seen_at seen 7;
      share = share;
    }

abbrev pub stepped_in_numbers : Stepped → ℕ × ℕ
stepped_in_numbers s = (power_refusal s.answer, state_number s.state)

-- the step from the state that a number stands for; a number that stands for none is kept
abbrev pub stepped_from : Option State → ℕ → List ℕ → Share → ℕ × ℕ
stepped_from (Some from) kept seen share = stepped_in_numbers (step_of from (seen_in seen share))
stepped_from None kept seen share = (not_a_power_state, kept)

-- pc_power_step_by with the share that it names, and pc_power_step with none given
abbrev pub stepped : ℕ → List ℕ → Share → ℕ × ℕ
stepped state seen share = stepped_from (state_numbered state) state seen share
