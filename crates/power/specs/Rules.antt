-- Document 01's rules of the power monitor: where it starts, and the state that follows an observation. Assumes nothing.
use Rattle.std.specs.Prelude.{Bool, true, cond, ◌&&◌, ◌||◌, ◌≡◌, ◌⊎◌}
use mathlib.Core.List.{List, [], ◌∷◌, ◌++◌, Memᴰ}
use Rattle.power.specs.declared.Observation.{Observation}
use Rattle.power.specs.declared.State.{State}
use Rattle.power.specs.declared.State.TheVariants.{Off, Rising, Precharge, Both, On, Falling, Fault}
use Rattle.power.specs.Observed.{all_open_spec, commanded, urgent, precharge_complete_spec, under10_a}
use Rattle.power.specs.Pictures.{picture}
use Rattle.power.specs.States.{same_state}

-- "A monitor starts off"
abbrev pub starts_as : State
starts_as = Off

-- a step from one state to another, and the observations that allow it
pub record PowerStep : Type 0 where
  pub from : State
  pub to : State
  pub when : Observation → Bool

abbrev pub from_to : State → State → (Observation → Bool) → PowerStep
from_to from to when = record { from = from; to = to; when = when }

-- a step without a condition
abbrev always : Observation → Bool
always seen = true

-- 3. "off to rising, rising to precharge: command 1; precharge to both: command 1 and precharge complete; both to on; falling to off"
unfoldable pub rule3 : List PowerStep
rule3 =
    from_to Off Rising (commanded 1)
    ∷ from_to Rising Precharge (commanded 1)
    ∷ from_to Precharge Both (λ seen. commanded 1 seen && precharge_complete_spec seen.inside seen.outside seen.share)
    ∷ from_to Both On always
    ∷ from_to Falling Off always
    ∷ []

-- 4. "rising to off: command 2; precharge to falling: command 2 or urgent; on to falling: urgent, or command 2 with current raw 19,901 to 20,099"
unfoldable pub rule4 : List PowerStep
rule4 =
    from_to Rising Off (commanded 2)
    ∷ from_to Precharge Falling (λ seen. commanded 2 seen || urgent seen)
    ∷ from_to On Falling (λ seen. urgent seen || (commanded 2 seen && under10_a seen.current))
    ∷ []

abbrev pub steps : List PowerStep
steps = rule3 ++ rule4

-- "the first that applies, where a step in 3 or 4 needs its new state's picture", else another state
unfoldable pub step_else : State → List PowerStep → State → Observation → State
step_else other [] state seen = other
step_else other (s ∷ more) state seen =
    cond (same_state s.from state && (picture s.to seen && s.when seen)) s.to (step_else other more state seen)

-- 5. "else fault"
abbrev pub first_step_spec : List PowerStep → State → Observation → State
first_step_spec = step_else Fault

-- 1. "the state's own picture: stays"; 2. "urgent and ooo: off"; else 3 to 5
abbrev pub by_rules : State → Observation → State
by_rules state seen = cond (picture state seen) state (cond (urgent seen && all_open_spec seen) Off (first_step_spec steps state seen))

-- "In fault, ooo with command 0 or 2 gives off, anything else stays fault"
abbrev pub from_fault_spec : Observation → State
from_fault_spec seen = cond (all_open_spec seen && (commanded 0 seen || commanded 2 seen)) Off Fault

-- in fault its own rule, and "otherwise" rules 1 to 5
unfoldable pub next_state_spec : State → Observation → State
next_state_spec Off = by_rules Off
next_state_spec Rising = by_rules Rising
next_state_spec Precharge = by_rules Precharge
next_state_spec Both = by_rules Both
next_state_spec On = by_rules On
next_state_spec Falling = by_rules Falling
next_state_spec Fault = from_fault_spec

-- a step of the list leads from the state to the next, its picture shows and its condition holds
pub record ByStep (list : List PowerStep) (state : State) (seen : Observation) (next : State) : Type 0 where
  pub step : PowerStep
  pub listed : Memᴰ step list
  pub from : step.from ≡ state
  pub to : step.to ≡ next
  pub shown : picture step.to seen ≡ true
  pub allowed : step.when seen ≡ true

-- where an observation may lead: the state stays, or it is off, or fault, or that of a step of rules 3 and 4
abbrev pub Leads : State → Observation → State → Type 0
Leads state seen next = (next ≡ state) ⊎ ((next ≡ Off) ⊎ ((next ≡ Fault) ⊎ ByStep steps state seen next))
