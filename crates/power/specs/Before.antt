-- The power step as it was before P6 of document 02: the share was 95 for every observation, and nobody gave one. It stays for the law that
-- compares (proofs/AsBefore.antt), and nothing else rests on it; what P6 left alone is cited. Assumes nothing.
use Rattle.std.specs.Prelude.{◌*◌, Bool, true, cond, ◌&&◌, List, [], ◌∷◌, ◌++◌, leb, ltb, Err}
use Rattle.catalogue.specs.declared.Raw.{Raw}
use Rattle.power.specs.declared.Observation.{Observation}
use Rattle.power.specs.declared.State.{State}
use Rattle.power.specs.declared.State.TheVariants.{Off, Rising, Precharge, Both, On, Falling, Fault}
use Rattle.power.specs.declared.PowerRefusal.TheVariants.{NeitherOpenNorClosed, CommandTooHigh, ReadingTooHigh}
use Rattle.power.specs.Observed.{all_open_spec, commanded, urgent, valid}
use Rattle.power.specs.Pictures.{picture}
use Rattle.power.specs.Rules.{PowerStep, from_to, rule4, first_step_spec, from_fault_spec}
use Rattle.power.specs.Refusals.{relays_fit_spec, commands_fit_spec, readings_fit_spec, state_and_answer, step_taken, Stepped}

-- "Precharge complete: both voltages valid, inside above 0, and 100 x outside >= 95 x inside (house figure)"
unfoldable pub complete_before_p6 : Raw → Raw → Bool
complete_before_p6 inside outside = valid inside && valid outside && ltb 0 inside.0 && leb (95 * inside.0) (100 * outside.0)

-- 3. "off to rising, rising to precharge: command 1; precharge to both: command 1 and precharge complete; both to on; falling to off"
unfoldable pub rule3_before_p6 : List PowerStep
rule3_before_p6 =
    from_to Off Rising (commanded 1)
    ∷ from_to Rising Precharge (commanded 1)
    ∷ from_to Precharge Both (λ seen. commanded 1 seen && complete_before_p6 seen.inside seen.outside)
    ∷ from_to Both On (λ seen. true)
    ∷ from_to Falling Off (λ seen. true)
    ∷ []

-- rules 1 to 5
abbrev pub by_rules_before_p6 : State → Observation → State
by_rules_before_p6 state seen = cond (picture state seen) state (cond (urgent seen && all_open_spec seen) Off (first_step_spec (rule3_before_p6 ++ rule4) state seen))

unfoldable pub next_state_before_p6 : State → Observation → State
next_state_before_p6 Off = by_rules_before_p6 Off
next_state_before_p6 Rising = by_rules_before_p6 Rising
next_state_before_p6 Precharge = by_rules_before_p6 Precharge
next_state_before_p6 Both = by_rules_before_p6 Both
next_state_before_p6 On = by_rules_before_p6 On
next_state_before_p6 Falling = by_rules_before_p6 Falling
next_state_before_p6 Fault = from_fault_spec

-- refusals 41, 42 and 43, in that order, each with the state kept; otherwise the rules
unfoldable pub step_before_p6 : State → Observation → Stepped
step_before_p6 state seen =
    cond (relays_fit_spec seen)
    (cond (commands_fit_spec seen)
    (cond (readings_fit_spec seen) (state_and_answer (next_state_before_p6 state seen) step_taken) (state_and_answer state (Err ReadingTooHigh)))
    (state_and_answer state (Err CommandTooHigh)))
    (state_and_answer state (Err NeitherOpenNorClosed))
