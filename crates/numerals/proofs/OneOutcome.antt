-- Each contract allows one outcome and no other. Assumes nothing.
use mathlib.Core.Path.{refl}
use Rattle.only.specs.Outcomes.{OneResult, result_is}
use Rattle.numerals.specs.Numeral.{digit_value, identifier, or_zero}
use Rattle.numerals.specs.contracts.digit as digit
use Rattle.numerals.specs.contracts.read_identifier as read-identifier
use Rattle.numerals.specs.contracts.identifier_or_0 as identifier-or-0

module _ (M : Type 1) where
  pub one_digit : OneResult M digit.ended (λ _. digit.clauses)
  one_digit = result_is (λ c. digit_value c.arguments.0) refl

  pub one_read_identifier : OneResult M read-identifier.ended (λ _. read-identifier.clauses)
  one_read_identifier = result_is (λ c. identifier c.arguments.0.now) refl

  pub one_identifier_or_0 : OneResult M identifier-or-0.ended (λ _. identifier-or-0.clauses)
  one_identifier_or_0 = result_is (λ c. or_zero (identifier c.arguments.0.now)) refl
