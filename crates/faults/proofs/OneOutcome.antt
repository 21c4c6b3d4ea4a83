-- Each public function's contract allows one outcome and no other. Assumes nothing.
use Rattle.std.specs.Prelude.{refl, Err}
use Rattle.only.specs.Outcomes.{OneResult, result_is}
use Rattle.faults.specs.Sum.{fault_refusal, answer_to}
use Rattle.faults.specs.contracts.sum as sum
use Rattle.faults.specs.contracts.U32FromFaultRefusal.from as number-of

module _ (M : Type 1) where
  pub one_sum : OneResult M sum.ended (λ _. sum.clauses)
  one_sum = result_is (λ c. answer_to c.arguments.0.now) refl

  pub one_fault_number : OneResult M number-of.ended (λ _. number-of.clauses)
  one_fault_number = result_is (λ c. fault_refusal (Err c.arguments.0)) refl
