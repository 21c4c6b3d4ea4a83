-- The routes that words show, by their two columns; and when the words stand as these routes would. Assumes nothing.
use mathlib.Core.Path.{◌≡◌, sym, ap, ◌∙◌}
use Prim.Native.Nat.{ℕ, ◌-◌, ◌≤◌}
use native.Mathlib.Omega.{arith}
use mathlib.Core.List.{List, [], ◌∷◌, ◌++◌}
use lib.ListN.{length, take, drop, replicate, length-map, length-take}
use lib.Seq.{drop-drop, take-add, length-take-le}
use Rattle.record.specs.Limits.{route_limit}
use Rattle.record.specs.Columns.{froms_at, route_count_of, froms_of, tos_of}
use Rattle.books.specs.Book.{Route}
use Rattle.books.specs.Words.{column, froms, tos, route_columns, RoutesStand, routes_side_by_side, routes_of}
use Rattle.books.proofs.Columns.{past_column, filled}
use Rattle.books.proofs.RouteColumns.{side_froms, side_tos, froms_stand, tos_stand, from_count, to_count}

-- every entry of a route column past its first n is 0
abbrev pub NoMore : ℕ → List ℕ → Type 0
NoMore n entries = drop n entries ≡ replicate (route_limit - n) 0

side_few : (fs ts : List ℕ) → length (routes_side_by_side fs ts) ≤ length fs
unfolding routes_side_by_side
side_few [] ts = omega arith
side_few (f ∷ fs) [] = omega arith
side_few (f ∷ fs) (t ∷ ts) = omega (arith, side_few fs ts)

-- words show no more routes than a book may have
pub few_shown : (w : List ℕ) → length (routes_of w) ≤ route_limit
unfolding routes_of
few_shown w =
    omega (
      arith,
      side_few (take (route_count_of w) (froms_of w)) (take (route_count_of w) (tos_of w)),
      length-take (route_count_of w) (froms_of w),
      length-take route_limit (drop froms_at w),
    )

-- words that stand as their routes would
module _ (w : List ℕ) (s : RoutesStand w (routes_of w)) where
  pub few_counted : route_count_of w ≤ route_limit
  few_counted = omega (arith, s.count, few_shown w)

  pub no_more_froms : NoMore (route_count_of w) (froms_of w)
  no_more_froms =
      ap (drop (route_count_of w)) (froms_stand w (routes_of w) (few_shown w) s) ∙
      past_column route_limit (route_count_of w) (froms (routes_of w)) (from_count w (routes_of w) (few_shown w) s)

  pub no_more_tos : NoMore (route_count_of w) (tos_of w)
  no_more_tos =
      ap (drop (route_count_of w)) (tos_stand w (routes_of w) (few_shown w) s) ∙
      past_column route_limit (route_count_of w) (tos (routes_of w)) (to_count w (routes_of w) (few_shown w) s)

-- words with whole columns
module _ (w : List ℕ) (from-long : length (froms_of w) ≡ route_limit) (to-long : length (tos_of w) ≡ route_limit) (few : route_count_of w ≤ route_limit) where
  start_count : length (take (route_count_of w) (froms_of w)) ≡ route_count_of w
  start_count = length-take-le (route_count_of w) (froms_of w) (omega arith)

  in_step : length (take (route_count_of w) (froms_of w)) ≡ length (take (route_count_of w) (tos_of w))
  in_step = start_count ∙ sym (length-take-le (route_count_of w) (tos_of w) (omega arith))

  pub froms_shown : froms (routes_of w) ≡ take (route_count_of w) (froms_of w)
  unfolding routes_of
  froms_shown = side_froms (take (route_count_of w) (froms_of w)) (take (route_count_of w) (tos_of w)) in_step

  pub tos_shown : tos (routes_of w) ≡ take (route_count_of w) (tos_of w)
  unfolding routes_of
  tos_shown = side_tos (take (route_count_of w) (froms_of w)) (take (route_count_of w) (tos_of w)) in_step

  -- with nothing past the count they stand as their routes would
  pub stand_shown : NoMore (route_count_of w) (froms_of w) → NoMore (route_count_of w) (tos_of w) → RoutesStand w (routes_of w)
  unfolding route_columns
  stand_shown f t = record {
    count = sym (sym (length-map (routes_of w) (λ (r : Route). r.from)) ∙ ap length froms_shown ∙ start_count);
    columns =
        take-add route_limit route_limit (drop froms_at w) ∙
        ap (λ (x : List ℕ). froms_of w ++ x) (ap (take route_limit) (drop-drop route_limit froms_at w)) ∙
        ap (λ (x : List ℕ). x ++ tos_of w) (filled route_limit (route_count_of w) (froms_of w) from-long few f ∙ ap (column route_limit) (sym froms_shown)) ∙
        ap (λ (x : List ℕ). column route_limit (froms (routes_of w)) ++ x) (filled route_limit (route_count_of w) (tos_of w) to-long few t ∙ ap (column route_limit) (sym tos_shown));
  }
