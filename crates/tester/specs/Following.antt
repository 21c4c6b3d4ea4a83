-- The charging monitor in numbers: what a call returns, with *state as it leaves it. Assumes nothing.
use Rattle.std.specs.Prelude.{ℕ, List, get_or, Option, Some, None}
use Rattle.catalogue.specs.declared.Raw.{Raw}
use Rattle.charging.specs.declared.ChargeObservation.{ChargeObservation}
use Rattle.charging.specs.declared.ChargeState.{ChargeState}
use Rattle.charging.specs.States.{charge_start, charge_number, charge_numbered}
use Rattle.charging.specs.Refusals.{ChargeStepped, charge_refusal, charge_step_of}

-- PCT_CHARGE_START, the first *state
abbrev pub first_charge : ℕ
first_charge = charge_number charge_start

-- 93, the face's own refusal: *state is no state's number
abbrev pub not_a_charge_state : ℕ
not_a_charge_state = 93

-- the observation that is lent as eleven raw counts: of 1708, 1605, 311, 313, 325, 327, 301, 302, 1709, 304 and 306
abbrev charge_seen_at : List ℕ → ℕ → Raw
charge_seen_at seen place = record { 0 = get_or seen place 0 }

abbrev pub charge_seen_in : List ℕ → ChargeObservation
charge_seen_in seen =
    record {
      plug = charge_seen_at seen 0;
      self_check = charge_seen_at seen 1;
      main_positive_welded = charge_seen_at seen 2;
      main_negative_welded = charge_seen_at seen 3;
      heating_positive_welded = charge_seen_at seen 4;
      heating_negative_welded = charge_seen_at seen 5;
      main_positive = charge_seen_at seen 6;
      main_negative = charge_seen_at seen 7;
      allowed = charge_seen_at seen 8;
      charge_positive = charge_seen_at seen 9;
      charge_negative = charge_seen_at seen 10;
    }

abbrev pub charge_in_numbers : ChargeStepped → ℕ × ℕ
charge_in_numbers s = (charge_refusal s.answer, charge_number s.state)

-- the step from the state that a number stands for; a number that stands for none is kept
abbrev pub charge_from : Option ChargeState → ℕ → List ℕ → ℕ × ℕ
charge_from (Some from) kept seen = charge_in_numbers (charge_step_of from (charge_seen_in seen))
charge_from None kept seen = (not_a_charge_state, kept)

-- pct_charge_step
abbrev pub charge_followed : ℕ → List ℕ → ℕ × ℕ
charge_followed state seen = charge_from (charge_numbered state) state seen
