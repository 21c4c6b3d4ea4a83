-- `routes::spread` meets its contract: the tables are tested first. Assumes nothing.
use Rattle.chains.proofs.Bools.{told_yes, told_no}
use Rattle.routes.specs.Answers.{not_a_book, by_routes}
use Rattle.routes.proofs.spread.Goals as goal

pub returns-then-not-routes_taken : goal.returns-then-not-routes_taken
returns-then-not-routes_taken c = not_a_book (told_no c.routes_taken.result c.routes_taken.ensures c.if-not-routes_taken.true)

pub spread_tested-requires : goal.spread_tested-requires
spread_tested-requires c = told_yes c.routes_taken.result c.routes_taken.ensures c.if-not-routes_taken.false

pub returns : goal.returns
returns c = by_routes (told_yes c.routes_taken.result c.routes_taken.ensures c.if-not-routes_taken.false) c.spread_tested.ensures
