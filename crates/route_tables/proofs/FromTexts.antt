-- Refusal 12 of a call on routes, exactly: the route tables of a record are those of a taken book exactly when some text is taken with
-- them. Assumes nothing.
use mathlib.Core.Path.{sym, subst}
use Prim.Native.Nat.{ℕ, zero, suc, ◌+◌, ◌<◌}
use native.Mathlib.Omega.{arith}
use mathlib.Core.List.{List, [], ◌∷◌}
use lib.ListN.{get_or, take, drop}
use lib.Seq.{get_or-drop}
use Rattle.record.specs.Limits.{route_limit}
use Rattle.record.specs.Place.{place_limit}
use Rattle.record.specs.Columns.{froms_at, tos_at, route_count_of, froms_of, tos_of, IsRecord}
use Rattle.books.specs.Book.{Route}
use Rattle.books.specs.Words.{RoutesStand, routes_side_by_side, routes_of}
use Rattle.books.proofs.RouteColumns.{shows_routes}
use Rattle.reading.specs.Written.{BetweenPlaces, no_route, route, Routed}
use Rattle.reading.specs.Taken.{SoundRoutes, RoutesFrom}
use Rattle.reading.proofs.Exact.{from_routes, routes_from_law}
use Rattle.route_tables.specs.Tables.{RoutesTaken}
use Rattle.route_tables.proofs.Shown.{few_shown}

-- every entry is the number of a place
Small : List ℕ → Type 0
Small l = (k : ℕ) → get_or l k 0 < place_limit

side_places : (fs ts : List ℕ) → Small fs → Small ts → BetweenPlaces (routes_side_by_side fs ts)
unfolding routes_side_by_side Small
side_places [] ts a b = no_route
side_places (f ∷ fs) [] a b = no_route
side_places (f ∷ fs) (t ∷ ts) a b = route (a 0) (b 0) (side_places fs ts (λ k. a (suc k)) (λ k. b (suc k)))

small_drop : (n : ℕ) (l : List ℕ) → Small l → Small (drop n l)
unfolding Small
small_drop n l h k = rw get_or-drop (h (n + k))

small_take : (n : ℕ) (l : List ℕ) → Small l → Small (take n l)
unfolding Small
small_take zero l h k = omega arith
small_take (suc n) [] h k = h k
small_take (suc n) (x ∷ l) h zero = h 0
small_take (suc n) (x ∷ l) h (suc k) = small_take n l (λ j. h (suc j)) k

-- the routes that the words of a record show are between places, and no more than a book may have
pub routed_shown : (w : List ℕ) → IsRecord w → Routed (routes_of w)
unfolding routes_of Small
routed_shown w r = record {
  few = few_shown w;
  places =
      side_places (take (route_count_of w) (froms_of w)) (take (route_count_of w) (tos_of w))
      (small_take (route_count_of w) (froms_of w) (small_take route_limit (drop froms_at w) (small_drop froms_at w r.small)))
      (small_take (route_count_of w) (tos_of w) (small_take route_limit (drop tos_at w) (small_drop tos_at w r.small)));
}

-- some text is taken with the route tables of a record exactly when the test behind 12 says so
pub routes_from_text : (w : List ℕ) → IsRecord w → RoutesTaken w → RoutesFrom w
routes_from_text w r t = from_routes w (record { routes = routes_of w; routed = routed_shown w r; sound = t.sound; stand = t.stand })

-- sound routes that stand in the words
pub stand_taken : (w : List ℕ) {rs : List Route} → Routed rs → RoutesStand w rs → SoundRoutes rs → RoutesTaken w
stand_taken w {rs} few s h =
    let e = shows_routes w rs few.few s in
    record { stand = subst (RoutesStand w) (sym e) s; sound = subst SoundRoutes (sym e) h }

pub text_to_routes : (w : List ℕ) → RoutesFrom w → RoutesTaken w
text_to_routes w f = let i = routes_from_law w f in stand_taken w i.routed i.stand i.sound
