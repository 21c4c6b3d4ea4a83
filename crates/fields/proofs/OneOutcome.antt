-- Each contract allows one result and no other. Assumes nothing.
use mathlib.Core.Path.{refl}
use Rattle.only.specs.Outcomes.{OneResult, result_is}
use Rattle.numerals.specs.Numeral.{decimal, identifier}
use Rattle.fields.specs.Front.{number_before}
use Rattle.fields.specs.contracts.decimal_before as decimal-before
use Rattle.fields.specs.contracts.identifier_before as identifier-before

module _ (M : Type 1) where
  pub one_decimal_before : OneResult M decimal-before.ended (λ _. decimal-before.clauses)
  one_decimal_before = result_is (λ c. number_before decimal c.arguments.1.0 c.arguments.0.now) refl

  pub one_identifier_before : OneResult M identifier-before.ended (λ _. identifier-before.clauses)
  one_identifier_before = result_is (λ c. number_before identifier c.arguments.1.0 c.arguments.0.now) refl
