-- The contract of `short_hex` allows one result and no other. Assumes nothing.
use mathlib.Core.Path.{refl}
use mathlib.Core.List.{[], ◌∷◌}
use Rattle.only.specs.Outcomes.{OneResult, result_is}
use Rattle.numerals.specs.Numeral.{numeral_from, or_zero}
use Rattle.record_cases.specs.contracts.short_hex as short-hex

module _ (M : Type 1) where
  pub one_short_hex : OneResult M short-hex.ended (λ _. short-hex.clauses)
  one_short_hex = result_is (λ c. or_zero (numeral_from 16 0 (c.arguments.0 ∷ c.arguments.1.0 ∷ []))) refl
