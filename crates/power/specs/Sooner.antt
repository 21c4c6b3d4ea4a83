-- What a lower share changes of a step: main positive closes on command 1, and the voltages complete precharge with the lower share and not
-- with the higher one; the lower one leads from precharge to both, the higher one to fault. Assumes nothing.
use Rattle.std.specs.Prelude.{◌≡◌, true, false}
use Rattle.power.specs.declared.Observation.{Observation}
use Rattle.power.specs.declared.State.{State}
use Rattle.power.specs.declared.State.TheVariants.{Precharge, Both, Fault}
use Rattle.power.specs.Shares.{seen_with, Share}
use Rattle.power.specs.Observed.{commanded, precharge_complete_spec}
use Rattle.power.specs.Pictures.{picture}
use Rattle.power.specs.Refusals.{state_and_answer, step_of, step_taken}

pub record Sooner (seen : Observation) (higher lower : Share) (state : State) : Type 0 where
  pub from : state ≡ Precharge
  pub closing : picture Both seen ≡ true
  pub up : commanded 1 seen ≡ true
  pub missed : precharge_complete_spec seen.inside seen.outside higher ≡ false
  pub met : precharge_complete_spec seen.inside seen.outside lower ≡ true
  pub by_the_higher : step_of state (seen_with higher seen) ≡ state_and_answer Fault step_taken
  pub by_the_lower : step_of state (seen_with lower seen) ≡ state_and_answer Both step_taken
