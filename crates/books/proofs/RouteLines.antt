-- An R line that is not refused: its buses and identifiers are within their limits, and the table has room. Assumes nothing.
use mathlib.Core.Path.{◌≡◌}
use mathlib.Core.Bool.{◌||◌}
use mathlib.Core.List.{List}
use Prim.Native.Nat.{ℕ, ◌<◌}
use lib.Dec.{leb}
use lib.ListN.{length}
use borrow.Author.Tests.{leb-false}
use Rattle.books.specs.Book.{Route}
use Rattle.books.specs.Lines.{route_refusal, bus_limit, identifier_limit, route_limit}
use Rattle.books.proofs.Tests.{not_refused, both_false}

pub record RouteAllowed (rs : List Route) (x i y j : ℕ) : Type 0 where
  pub from_bus : x < bus_limit
  pub from_identifier : i < identifier_limit
  pub to_bus : y < bus_limit
  pub to_identifier : j < identifier_limit
  pub few : length rs < route_limit

pub route_allowed : (rs : List Route) (x i y j : ℕ) → route_refusal rs x i y j ≡ 0 → RouteAllowed rs x i y j
unfolding route_refusal
route_allowed rs x i y j e =
    let a = not_refused ((leb bus_limit x || leb identifier_limit i) || (leb bus_limit y || leb identifier_limit j)) 2 _ e in
    let b = not_refused (leb route_limit (length rs)) 8 0 a.1 in
    let c = both_false (leb bus_limit x || leb identifier_limit i) (leb bus_limit y || leb identifier_limit j) a.0 in
    let d = both_false (leb bus_limit x) (leb identifier_limit i) c.0 in
    let f = both_false (leb bus_limit y) (leb identifier_limit j) c.1 in
    record {
      from_bus = leb-false bus_limit x d.0;
      from_identifier = leb-false identifier_limit i d.1;
      to_bus = leb-false bus_limit y f.0;
      to_identifier = leb-false identifier_limit j f.1;
      few = leb-false route_limit (length rs) b.0;
    }
