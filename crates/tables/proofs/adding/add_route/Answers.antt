-- `tables::adding::add_route` meets its contract: the tests that led to each `return` say which case of the refusal holds. Assumes nothing.
use mathlib.Core.Path.{refl, sym, ◌∙◌}
use native.Mathlib.Omega.{arith}
use Rattle.books.specs.Book.{route}
use Rattle.tables.proofs.Held.{routes_held}
use Rattle.tables.proofs.Stored.{route_stored_law}
use Rattle.tables.proofs.Refused.{stays, takes, inside, from_over, to_over, route_full, route_free}
use Rattle.tables.proofs.adding.add_route.Goals as goal

pub returns-then-over_limit : goal.returns-then-over_limit
returns-then-over_limit c = λ b h. let e = from_over _ b h _ _ c.args.to_bus c.args.to_identifier _ refl (sym c.over_limit.ensures ∙ c.if-over_limit.true) in stays _ _ _ _ _ (sym e) 2 e h

pub returns-then-over_limit-2 : goal.returns-then-over_limit-2
returns-then-over_limit-2 c = λ b h. let e = to_over _ b h c.args.from_bus c.args.from_identifier _ _ _ refl (sym c.over_limit-2.ensures ∙ c.if-over_limit-2.true) in stays _ _ _ _ _ (sym e) 2 e h

pub returns-then-count-ge-ROUTES : goal.returns-then-count-ge-ROUTES
returns-then-count-ge-ROUTES c = λ b h. let e = route_full _ b h _ _ _ _ c.route_count-count.result c.route_count-count.ensures (sym c.over_limit.ensures ∙ c.if-over_limit.false) (sym c.over_limit-2.ensures ∙ c.if-over_limit-2.false) (omega (arith, c.if-count-ge-ROUTES.true)) in stays _ _ _ _ _ (sym e) 8 e h

pub place-from-requires : goal.place-from-requires
place-from-requires c = inside _ _ (sym c.over_limit.ensures ∙ c.if-over_limit.false)

pub place-to-requires : goal.place-to-requires
place-to-requires c = inside _ _ (sym c.over_limit-2.ensures ∙ c.if-over_limit-2.false)

pub returns : goal.returns
returns c = λ b h.
    let e = route_free _ b h _ _ _ _ c.route_count-count.result c.route_count-count.ensures (sym c.over_limit.ensures ∙ c.if-over_limit.false) (sym c.over_limit-2.ensures ∙ c.if-over_limit-2.false) (omega (arith, c.if-count-ge-ROUTES.false)) in
    let n = routes_held _ b h in
    let m = c.route_count-count.ensures in
    let w = h.words in
    let p = c.put_route.ensures in
    let from = c.place-from.ensures in
    let to = c.place-to.ensures in
    let stored = route_stored_law b (route c.args.from_bus c.args.from_identifier c.args.to_bus c.args.to_identifier) h.within (omega (arith, c.if-count-ge-ROUTES.false, m, n)) in
    takes _ _ _ _ _ (sym e) e (cc)
