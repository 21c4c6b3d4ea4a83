-- `book_writer::taken::TakenBook::routes` meets its contract. Assumes nothing.
use mathlib.Core.Path.{◌∙◌}
use native.Mathlib.Omega.{arith}
use Rattle.book_writer.proofs.Shown.{lent, routes_counted, froms_shown, tos_shown}
use Rattle.book_writer.proofs.taken.TakenBook.routes.Goals as goal

pub first-requires : goal.first-requires
first-requires c = omega (arith, routes_counted _ c.args.self.now.taken.routes, c.froms.ensures.1, c.route_count-count.ensures)

pub returns-clause-froms : goal.returns-clause-froms
returns-clause-froms c = c.first.ensures.0 ∙ lent c.route_count-count.ensures c.froms.ensures.0 ∙ froms_shown _ c.args.self.now.taken.routes

pub returns-clause-tos : goal.returns-clause-tos
returns-clause-tos c = c.first-2.ensures.0 ∙ lent c.route_count-count.ensures c.tos.ensures.0 ∙ tos_shown _ c.args.self.now.taken.routes
