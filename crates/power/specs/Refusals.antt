-- One step: refusals 41, 42, 43 and 44, in that order, each with the state kept; otherwise the rules. Assumes nothing.
use Rattle.std.specs.Prelude.{ℕ, Bool, true, false, ◌&&◌, ◌||◌, eqb, leb, Result, Ok, Err}
use Rattle.catalogue.specs.declared.Raw.{Raw}
use Rattle.power.specs.declared.Observation.{Observation}
use Rattle.power.specs.declared.State.{State}
use Rattle.power.specs.declared.PowerRefusal.{PowerRefusal}
use Rattle.power.specs.declared.PowerRefusal.TheVariants.{NeitherOpenNorClosed, CommandTooHigh, ReadingTooHigh, ShareOutOfRange}
use Rattle.power.specs.Observed.{open_relay, closed_relay, highest_command, highest_reading}
use Rattle.power.specs.Shares.{share_fits_spec}
use Rattle.power.specs.Rules.{next_state_spec}

-- the answer to an observation: it is taken, or refused
abbrev pub PowerAnswer : Type 0
PowerAnswer = Result Unit PowerRefusal

abbrev pub step_taken : PowerAnswer
step_taken = Ok tt

-- the document's number of each answer; 0 is no refusal
abbrev pub power_refusal : PowerAnswer → ℕ
power_refusal (Ok _) = 0
power_refusal (Err NeitherOpenNorClosed) = 41
power_refusal (Err CommandTooHigh) = 42
power_refusal (Err ReadingTooHigh) = 43
power_refusal (Err ShareOutOfRange) = 44

-- 41: "a relay count other than 1 or 2"
abbrev pub open_or_closed : Raw → Bool
open_or_closed relay = eqb relay.0 open_relay || eqb relay.0 closed_relay

abbrev pub relays_fit_spec : Observation → Bool
relays_fit_spec seen = open_or_closed seen.main_negative && open_or_closed seen.precharge && open_or_closed seen.main_positive

-- 42: "command or 1604 over 3"
abbrev pub commands_fit_spec : Observation → Bool
commands_fit_spec seen = leb seen.command.0 highest_command && leb seen.emergency_off.0 highest_command

-- 43: "current or voltage over 65,535"
abbrev pub readings_fit_spec : Observation → Bool
readings_fit_spec seen = leb seen.current.0 highest_reading && leb seen.inside.0 highest_reading && leb seen.outside.0 highest_reading

-- what a step leaves: the state and the answer
pub record Stepped : Type 0 where
  pub state : State
  pub answer : PowerAnswer

abbrev pub state_and_answer : State → PowerAnswer → Stepped
state_and_answer state answer = record { state = state; answer = answer }

-- by whether the relays, the commands, the readings and the share fit: the first that doesn't is the refusal, with the "state kept"
abbrev pub stepped_if_fit : Bool → Bool → Bool → Bool → State → State → Stepped
stepped_if_fit false commands readings fitting kept next = state_and_answer kept (Err NeitherOpenNorClosed)
stepped_if_fit true false readings fitting kept next = state_and_answer kept (Err CommandTooHigh)
stepped_if_fit true true false fitting kept next = state_and_answer kept (Err ReadingTooHigh)
stepped_if_fit true true true false kept next = state_and_answer kept (Err ShareOutOfRange)
stepped_if_fit true true true true kept next = state_and_answer next step_taken

unfoldable pub step_of : State → Observation → Stepped
step_of state seen = stepped_if_fit (relays_fit_spec seen) (commands_fit_spec seen) (readings_fit_spec seen) (share_fits_spec seen.share) state (next_state_spec state seen)

-- of a step that is taken the state that it leaves, else the refusal: the state that is kept is the one that the caller has
abbrev pub state_for : State → PowerAnswer → Result State PowerRefusal
state_for state (Ok _) = Ok state
state_for state (Err why) = Err why

abbrev pub state_if_taken : Stepped → Result State PowerRefusal
state_if_taken s = state_for s.state s.answer
