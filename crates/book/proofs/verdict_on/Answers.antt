-- `book::verdict_on` meets its contract: the first entries of the two columns are the book's routes. Assumes nothing.
use native.Mathlib.Omega.{arith}
use Rattle.book.proofs.Routes.{count_few, on_routes}
use Rattle.book.proofs.verdict_on.Goals as goal

pub first-requires : goal.first-requires
first-requires c = omega (arith, count_few c.requires.1 c.route_count-count.ensures, c.froms-froms.ensures.1)

pub first-requires-2 : goal.first-requires-2
first-requires-2 c = omega (arith, count_few c.requires.1 c.route_count-count.ensures, c.tos-tos.ensures.1)

pub judge-requires : goal.judge-requires
judge-requires c = (omega (arith, count_few c.requires.1 c.route_count-count.ensures, c.first.ensures.1), omega (arith, c.first.ensures.1, c.first-2.ensures.1))

pub returns : goal.returns
returns c = λ b h. on_routes h c.route_count-count.ensures c.judge.result c.froms-froms.ensures.0 c.tos-tos.ensures.0 c.first.ensures.0 c.first-2.ensures.0 c.judge.ensures
