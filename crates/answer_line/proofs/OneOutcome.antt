-- `print`'s contract allows one outcome and no other: how many bytes, with what stands in the lent bytes at exit. Assumes nothing.
use mathlib.Core.Path.{refl}
use base.Stored.{coded_ℕ, coded×, coded_list}
use Rattle.only.specs.Outcomes.{OneOutcome, outcome_is}
use Rattle.answers.specs.Numbers.{said}
use Rattle.answer_line.specs.Printed.{answer_line_spec, printed}
use Rattle.answer_line.specs.contracts.print as print

module _ (M : Type 1) where
  pub one_print : OneOutcome M print.ended (λ _. print.clauses)
  one_print =
      outcome_is (coded× coded_ℕ (coded_list coded_ℕ)) (λ c o. (o.0, o.1.1.0)) (λ c x. (x.0, (tt, (x.1, tt)))) (λ c o. refl) (λ c x. refl)
      (λ c. printed c.arguments.1.0.now (answer_line_spec (said c.arguments.0))) refl
