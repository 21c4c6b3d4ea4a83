-- The contract of a refusal's number allows one result and no other. Assumes nothing.
use mathlib.Core.Path.{refl}
use Rattle.only.specs.Outcomes.{OneResult, result_is}
use Rattle.answers.specs.Numbers.{number}
use Rattle.answers.specs.contracts.U32FromRefusal.from as number-fn

module _ (M : Type 1) where
  pub one_number : OneResult M number-fn.ended (λ _. number-fn.clauses)
  one_number = result_is (λ c. number c.arguments.0) refl
