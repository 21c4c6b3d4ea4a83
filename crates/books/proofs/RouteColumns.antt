-- Routes in words: the words of a book have its routes, and what stands in words is what their two columns say. Assumes nothing.
use mathlib.Core.Path.{◌≡◌, refl, sym, ap, ◌∙◌}
use Prim.Native.Nat.{ℕ, ◌≤◌}
use native.Mathlib.Omega.{arith}
use mathlib.Core.List.{List, [], ◌∷◌}
use lib.ListN.{length, take, drop, length-append, length-map}
use lib.Seq.{take_at, drop_at, drop-drop, take_all}
use Rattle.record.specs.Columns.{froms_at, message_words, route_words, route_count_of, froms_of, tos_of}
use Rattle.books.specs.Book.{Route, Book, all_placements}
use Rattle.books.specs.Lines.{message_limit, signal_limit, route_limit}
use Rattle.books.specs.Words.{froms, tos, from_column, to_column, message_columns, route_columns, words_of, RoutesStand, routes_side_by_side, routes_of}
use Rattle.books.proofs.Columns.{length_column, take_column, part_of, columns_long}

-- routes side by side have the places of the two columns, and routes are those of their two columns
pub side_froms : (fs ts : List ℕ) → length fs ≡ length ts → froms (routes_side_by_side fs ts) ≡ fs
unfolding routes_side_by_side
side_froms [] ts e = refl
side_froms (f ∷ fs) [] e = absurd (omega arith)
side_froms (f ∷ fs) (t ∷ ts) e = ap (◌∷◌ f) (side_froms fs ts (omega arith))

pub side_tos : (fs ts : List ℕ) → length fs ≡ length ts → tos (routes_side_by_side fs ts) ≡ ts
unfolding routes_side_by_side
side_tos [] [] e = refl
side_tos [] (t ∷ ts) e = absurd (omega arith)
side_tos (f ∷ fs) [] e = absurd (omega arith)
side_tos (f ∷ fs) (t ∷ ts) e = ap (◌∷◌ t) (side_tos fs ts (omega arith))

pub routes_side : (rs : List Route) → routes_side_by_side (froms rs) (tos rs) ≡ rs
unfolding routes_side_by_side
routes_side [] = refl
routes_side (r ∷ rs) = ap (◌∷◌ r) (routes_side rs)

-- the columns of routes within the limit
module _ (rs : List Route) (few : length rs ≤ route_limit) where
  froms_long : length (from_column rs) ≡ route_limit
  froms_long = length_column route_limit (froms rs) (omega (arith, length-map rs (λ (r : Route). r.from)))

  tos_long : length (to_column rs) ≡ route_limit
  tos_long = length_column route_limit (tos rs) (omega (arith, length-map rs (λ (r : Route). r.to)))

  routes_long : length (route_columns rs) ≡ route_words
  unfolding route_columns
  routes_long = omega (arith, length-append (from_column rs) (to_column rs), froms_long, tos_long)

-- routes that stand in the words
module _ (w : List ℕ) (rs : List Route) (few : length rs ≤ route_limit) (s : RoutesStand w rs) where
  pub froms_stand : froms_of w ≡ from_column rs
  unfolding route_columns
  froms_stand = sym (part_of route_limit 0 route_words (drop froms_at w) (omega arith)) ∙ ap (take route_limit) s.columns ∙ take_at (from_column rs) (to_column rs) route_limit (froms_long rs few)

  pub tos_stand : tos_of w ≡ to_column rs
  unfolding route_columns
  tos_stand =
      ap (take route_limit) (sym (drop-drop route_limit froms_at w)) ∙ sym (part_of route_limit route_limit route_words (drop froms_at w) (omega arith)) ∙
      ap (λ (l : List ℕ). take route_limit (drop route_limit l)) s.columns ∙ ap (take route_limit) (drop_at (from_column rs) (to_column rs) route_limit (froms_long rs few)) ∙
      take_all route_limit (to_column rs) (omega (arith, tos_long rs few))

  -- as many entries as are counted
  pub from_count : length (froms rs) ≡ route_count_of w
  from_count = length-map rs (λ (r : Route). r.from) ∙ sym s.count

  pub to_count : length (tos rs) ≡ route_count_of w
  to_count = length-map rs (λ (r : Route). r.to) ∙ sym s.count

  pub froms_are : take (route_count_of w) (froms_of w) ≡ froms rs
  froms_are = ap (take (route_count_of w)) froms_stand ∙ take_column route_limit (route_count_of w) (froms rs) from_count

  pub tos_are : take (route_count_of w) (tos_of w) ≡ tos rs
  tos_are = ap (take (route_count_of w)) tos_stand ∙ take_column route_limit (route_count_of w) (tos rs) to_count

  -- they are the routes that the words show
  pub shows_routes : routes_of w ≡ rs
  unfolding routes_of
  shows_routes = rw (froms_are, tos_are) (routes_side rs)

-- the words of a book within the limits
module _ (b : Book) (few : length b.messages ≤ message_limit) (room : length (all_placements b.messages) ≤ signal_limit) (routed : length b.routes ≤ route_limit) where
  -- have its routes
  pub words_routes : RoutesStand (words_of b) b.routes
  unfolding words_of
  words_routes = record {
    count = refl;
    columns =
        ap (take route_words) (drop_at (message_columns b.messages) (route_columns b.routes) message_words (columns_long b.messages few room)) ∙
        take_all route_words (route_columns b.routes) (omega (arith, routes_long b.routes routed));
  }
