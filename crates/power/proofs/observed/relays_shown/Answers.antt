-- `power::observed::relays_shown` meets its contract: with relays of 1 or 2 the sum stays small. Assumes nothing.
use native.Mathlib.Omega.{arith}
use Rattle.power.proofs.PictureNumbers.{first_fits, second_fits, third_fits}
use Rattle.power.proofs.observed.relays_shown.Goals as goal

pub overflow_mul-result : goal.overflow_mul-result
overflow_mul-result c = record { fits = omega (arith, first_fits c.args.tested.seen c.args.tested.fit) }

pub overflow_mul-result-2 : goal.overflow_mul-result-2
overflow_mul-result-2 c = record { fits = omega (arith, second_fits c.args.tested.seen c.args.tested.fit) }

pub overflow_add-result : goal.overflow_add-result
overflow_add-result c = record { fits = omega (arith, first_fits c.args.tested.seen c.args.tested.fit, second_fits c.args.tested.seen c.args.tested.fit) }

pub overflow_add-result-2 : goal.overflow_add-result-2
overflow_add-result-2 c =
    record { fits = omega (arith, first_fits c.args.tested.seen c.args.tested.fit, second_fits c.args.tested.seen c.args.tested.fit, third_fits c.args.tested.seen c.args.tested.fit) }
