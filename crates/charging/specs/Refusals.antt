-- One step of the charging monitor: refusal 81, with the state kept; otherwise the rule. Assumes nothing.
use Rattle.std.specs.Prelude.{ℕ, Bool, true, not, cond, ◌&&◌, List, [], ◌∷◌, eqb, Result, Ok, Err}
use Rattle.catalogue.specs.declared.Raw.{Raw}
use Rattle.catalogue.specs.Class.{class_of_spec, class_number}
use Rattle.charging.specs.declared.ChargeObservation.{ChargeObservation}
use Rattle.charging.specs.declared.ChargeState.{ChargeState}
use Rattle.charging.specs.declared.CountTooWide.{CountTooWide}
use Rattle.charging.specs.Observed.{counts_seen}
use Rattle.charging.specs.Rules.{next_charge_spec}

-- the answer to an observation: it is taken, or refused for a count that is too wide
abbrev pub ChargeAnswer : Type 0
ChargeAnswer = Result Unit CountTooWide

abbrev pub charge_taken : ChargeAnswer
charge_taken = Ok tt

abbrev pub charge_too_wide : ChargeAnswer
charge_too_wide = Err (record {})

-- document 02's number of each answer; 0 is no refusal
abbrev pub charge_refusal : ChargeAnswer → ℕ
charge_refusal (Ok _) = 0
charge_refusal (Err _) = 81

-- 81 is for "a count too wide for its signal": this one is not, by its class in the catalogue, which refuses such a count with 26
abbrev pub fits_signal : ℕ → Raw → Bool
fits_signal number raw = not (eqb (class_number (class_of_spec number raw)) 26)

-- each count of a list fits the signal that it stands with
abbrev each_fits : List (ℕ × Raw) → Bool
each_fits [] = true
each_fits (c ∷ more) = fits_signal c.0 c.1 && each_fits more

unfoldable pub counts_fit : ChargeObservation → Bool
counts_fit seen = each_fits (counts_seen seen)

-- what a step leaves: the state and the answer
pub record ChargeStepped : Type 0 where
  pub state : ChargeState
  pub answer : ChargeAnswer

abbrev pub charge_left : ChargeState → ChargeAnswer → ChargeStepped
charge_left state answer = record { state = state; answer = answer }

-- "state kept" on 81
unfoldable pub charge_step_of : ChargeState → ChargeObservation → ChargeStepped
charge_step_of state seen = cond (counts_fit seen) (charge_left (next_charge_spec state seen) charge_taken) (charge_left state charge_too_wide)

-- of a step that is taken the state that it leaves, else the refusal: the state that is kept is the one that the caller has
abbrev pub charge_for : ChargeState → ChargeAnswer → Result ChargeState CountTooWide
charge_for state (Ok _) = Ok state
charge_for state (Err why) = Err why

abbrev pub charge_if_taken : ChargeStepped → Result ChargeState CountTooWide
charge_if_taken s = charge_for s.state s.answer
