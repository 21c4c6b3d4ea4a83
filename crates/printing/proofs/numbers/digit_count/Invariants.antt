-- `printing::numbers::digit_count` meets its contract: the digits counted and those of the rest are those of the number, and one. Assumes nothing.
use mathlib.Core.Path.{◌≡◌}
use Prim.Native.Nat.{◌+◌}
use Rattle.printing.specs.Decimal.{digit_count_spec}
use Rattle.printing.proofs.numbers.digit_count.Given as goal

abbrev pub invariant-loop-rest : goal.invariant-loop-rest
invariant-loop-rest l = l.count + digit_count_spec l.rest ≡ 1 + digit_count_spec l.n

abbrev pub decreases-loop-rest : goal.decreases-loop-rest
decreases-loop-rest l = l.rest
