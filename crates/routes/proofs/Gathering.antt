-- The spread by the routes of a taken book fits a room for as many places as a book may have routes; and what the call answers by what it
-- gathered there. Assumes nothing.
use mathlib.Core.Path.{◌≡◌, sym, ap, ◌∙◌, subst}
use Prim.Native.Nat.{ℕ, ◌<◌, ◌≤◌}
use native.Mathlib.Omega.{arith}
use mathlib.Core.List.{List, ◌++◌}
use lib.ListN.{length, take, drop, replicate, length-map, length-replicate}
use Rattle.record.specs.Limits.{route_limit}
use Rattle.record.specs.Columns.{route_count_of}
use Rattle.record.specs.Place.{place_key}
use Rattle.chains.specs.Chain.{IsSound}
use Rattle.chains.proofs.Spreads.{spread_few}
use Rattle.books.specs.Book.{Route}
use Rattle.books.specs.Words.{froms, tos, routes_of}
use Rattle.books.proofs.RouteColumns.{froms_are, tos_are}
use Rattle.sending.specs.Writing.{live_froms, live_tos, spread_in, Ready, Written}
use Rattle.route_tables.specs.Tables.{RoutesTaken}
use Rattle.route_tables.proofs.Shown.{few_shown, few_counted}
use Rattle.routes.specs.Answers.{IsPlace, spread_along, SpreadBy, no_room, spreads}
use Rattle.routes.proofs.Front.{front}

module _ (w : List ℕ) (taken : RoutesTaken w) where
  -- the routes that are counted are the book's
  from_live : live_froms w ≡ froms (routes_of w)
  from_live = froms_are w (routes_of w) (few_shown w) taken.stand

  to_live : live_tos w ≡ tos (routes_of w)
  to_live = tos_are w (routes_of w) (few_shown w) taken.stand

  live_count : length (live_froms w) ≡ route_count_of w
  live_count = ap length from_live ∙ length-map (routes_of w) (λ (r : Route). r.from) ∙ sym taken.stand.count

  in_step : length (live_froms w) ≡ length (live_tos w)
  in_step = live_count ∙ taken.stand.count ∙ sym (length-map (routes_of w) (λ (r : Route). r.to)) ∙ ap length (sym to_live)

  live_sound : IsSound (live_froms w) (live_tos w)
  live_sound = rw (from_live, to_live) taken.sound

  few : (p : ℕ) → length (spread_in w p) ≤ route_limit
  few p = omega (arith, spread_few (live_froms w) (live_tos w) live_sound.loop_free live_sound.single in_step p, live_count, few_counted w taken.stand)

  pub ready : (p : ℕ) → Ready w (spread_in w p) 0
  ready p = record { few = few_counted w taken.stand; whole = live_count; free = live_sound.loop_free; space = omega (arith, few p) }

  abbrev empty : List ℕ
  empty = replicate route_limit 0

  -- what is gathered in an empty room of that size
  module _ (bus identifier place : ℕ) (is : place ≡ place_key bus identifier) (after : List ℕ) (n : ℕ) (h : Written (spread_in w place) empty 0 after n) where
    abbrev s : List ℕ
    s = spread_along (routes_of w) bus identifier

    same : spread_in w place ≡ s
    same = ap (spread_in w) is ∙ (rw (from_live, to_live))

    fits : length (spread_in w place) ≤ length empty
    fits = omega (arith, few place, length-replicate {A = ℕ} route_limit 0)

    counted : n ≡ length s
    counted = (front (spread_in w place) empty after n fits h).0 ∙ ap length same

    gathered : take n after ≡ s
    gathered = (front (spread_in w place) empty after n fits h).1 ∙ same

    pub enough : n ≤ route_limit
    enough = omega (arith, counted, ap length same, few place)

    module _ (at : IsPlace bus identifier) (room : List ℕ) where
      pub too_small : length room < n → SpreadBy (routes_of w) bus identifier room 62 0 room
      too_small l = no_room at (omega (arith, counted))

      pub written : n ≤ length room → (left : List ℕ) → left ≡ take n after ++ drop n room → SpreadBy (routes_of w) bus identifier room 0 n left
      written l left e =
          let f : left ≡ s ++ drop (length s) room = e ∙ ap (λ (t : List ℕ). t ++ drop n room) gathered ∙ ap (λ (k : ℕ). s ++ drop k room) counted in
          subst (λ (k : ℕ). SpreadBy (routes_of w) bus identifier room 0 k left) (sym counted)
          (subst (λ (t : List ℕ). SpreadBy (routes_of w) bus identifier room 0 (length s) t) (sym f) (spreads at (omega (arith, counted))))
