-- Each contract allows one outcome and no other; of `part` it is so where its `requires` holds. Assumes nothing.
use mathlib.Core.Path.{refl}
use mathlib.Core.List.{[], ◌∷◌}
use Prim.Native.Nat.{◌-◌, ◌≤◌}
use native.Mathlib.Omega.{arith}
use lib.ListN.{length, get_or, take, drop, length-drop}
use lib.Seq.{length-take-le}
use Rattle.only.specs.Outcomes.{OneResult, OneContent, result_is, content_is}
use Rattle.books.specs.Lines.{is_in}
use Rattle.columns.specs.Identifiers.{distinct_after}
use Rattle.columns.specs.contracts.length_of as length-of
use Rattle.columns.specs.contracts.part as part
use Rattle.columns.specs.contracts.begin as begin
use Rattle.columns.specs.contracts.holds as holds
use Rattle.columns.specs.contracts.distinct as distinct

module _ (M : Type 1) where
  pub one_length_of : OneResult M length-of.ended (λ _. length-of.clauses)
  one_length_of = result_is (λ c. length c.arguments.0.now) refl

  pub one_part : OneContent M part.ended (λ _. part.clauses) (λ c s. s)
      (λ c. (c.arguments.1.0 ≤ c.arguments.1.1.0) × (c.arguments.1.1.0 ≤ length c.arguments.0.now))
  one_part =
      content_is (λ c. take (c.arguments.1.1.0 - c.arguments.1.0) (drop c.arguments.1.0 c.arguments.0.now)) (λ c. c.arguments.1.1.0 - c.arguments.1.0)
      (λ c h. length-take-le _ _ (omega (arith, length-drop c.arguments.1.0 c.arguments.0.now, h.1))) refl

  pub one_begin : OneResult M begin.ended (λ _. begin.clauses)
  one_begin = result_is (λ c. get_or (0 ∷ c.arguments.0.now) c.arguments.1.0 0) refl

  pub one_holds : OneResult M holds.ended (λ _. holds.clauses)
  one_holds = result_is (λ c. is_in c.arguments.1.0 c.arguments.0.now) refl

  pub one_distinct : OneResult M distinct.ended (λ _. distinct.clauses)
  one_distinct = result_is (λ c. distinct_after [] c.arguments.0.now) refl
