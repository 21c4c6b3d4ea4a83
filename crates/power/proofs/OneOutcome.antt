-- Each public function's contract allows one outcome and no other. Assumes nothing.
use Rattle.std.specs.Prelude.{refl, Err}
use Rattle.only.specs.Outcomes.{OneResult, result_is}
use Rattle.power.specs.Shares.{hundredths}
use Rattle.power.specs.Observed.{precharge_complete_spec}
use Rattle.power.specs.States.{state_number, state_or_not}
use Rattle.power.specs.Rules.{starts_as}
use Rattle.power.specs.Refusals.{power_refusal, step_of, state_if_taken}
use Rattle.power.specs.contracts.shares.hundredths as hundredths-fn
use Rattle.power.specs.contracts.State.start as start
use Rattle.power.specs.contracts.U32FromState.from as number-fn
use Rattle.power.specs.contracts.StateTryFromU32.try_from as numbered-fn
use Rattle.power.specs.contracts.U32FromPowerRefusal.from as refusal-fn
use Rattle.power.specs.contracts.observed.precharge_complete as precharge-complete
use Rattle.power.specs.contracts.step as step

module _ (M : Type 1) where
  pub one_hundredths : OneResult M hundredths-fn.ended (λ _. hundredths-fn.clauses)
  one_hundredths = result_is (λ c. hundredths c.arguments.0) refl

  pub one_start : OneResult M start.ended (λ _. start.clauses)
  one_start = result_is (λ c. starts_as) refl

  pub one_number : OneResult M number-fn.ended (λ _. number-fn.clauses)
  one_number = result_is (λ c. state_number c.arguments.0) refl

  pub one_numbered : OneResult M numbered-fn.ended (λ _. numbered-fn.clauses)
  one_numbered = result_is (λ c. state_or_not c.arguments.0) refl

  pub one_power_refusal : OneResult M refusal-fn.ended (λ _. refusal-fn.clauses)
  one_power_refusal = result_is (λ c. power_refusal (Err c.arguments.0)) refl

  pub one_precharge_complete : OneResult M precharge-complete.ended (λ _. precharge-complete.clauses)
  one_precharge_complete = result_is (λ c. precharge_complete_spec c.arguments.0 c.arguments.1.0 c.arguments.1.1.0) refl

  pub one_step : OneResult M step.ended (λ _. step.clauses)
  one_step = result_is (λ c. state_if_taken (step_of c.arguments.0 c.arguments.1.0)) refl
