-- Each public function's contract allows one outcome and no other. Assumes nothing.
use Rattle.std.specs.Prelude.{refl, Err}
use Rattle.only.specs.Outcomes.{OneResult, result_is}
use Rattle.charging.specs.States.{charge_start, charge_number, charge_state_or_not}
use Rattle.charging.specs.Refusals.{charge_refusal, charge_step_of, charge_if_taken}
use Rattle.charging.specs.contracts.ChargeState.start as start
use Rattle.charging.specs.contracts.U32FromChargeState.from as number-fn
use Rattle.charging.specs.contracts.ChargeStateTryFromU32.try_from as numbered-fn
use Rattle.charging.specs.contracts.U32FromCountTooWide.from as refusal-fn
use Rattle.charging.specs.contracts.step as step

module _ (M : Type 1) where
  pub one_start : OneResult M start.ended (λ _. start.clauses)
  one_start = result_is (λ c. charge_start) refl

  pub one_number : OneResult M number-fn.ended (λ _. number-fn.clauses)
  one_number = result_is (λ c. charge_number c.arguments.0) refl

  pub one_numbered : OneResult M numbered-fn.ended (λ _. numbered-fn.clauses)
  one_numbered = result_is (λ c. charge_state_or_not c.arguments.0) refl

  pub one_charge_refusal : OneResult M refusal-fn.ended (λ _. refusal-fn.clauses)
  one_charge_refusal = result_is (λ c. charge_refusal (Err c.arguments.0)) refl

  pub one_step : OneResult M step.ended (λ _. step.clauses)
  one_step = result_is (λ c. charge_if_taken (charge_step_of c.arguments.0 c.arguments.1.0)) refl
