-- What the columns of a record have, where its tables are those of a taken book. Assumes nothing.
use mathlib.Core.Path.{◌≡◌, sym, ap, ◌∙◌}
use mathlib.Core.Bool.{true}
use Prim.Native.Nat.{ℕ, ◌≤◌}
use native.Mathlib.Omega.{arith}
use mathlib.Core.List.{List}
use lib.ListN.{take, length-map}
use Rattle.record.specs.Limits.{message_limit, signal_limit, route_limit}
use Rattle.record.specs.Columns.{message_count_of, signal_count_of, route_count_of, ids_of, ends_of, numbers_of, starts_of, froms_of, tos_of}
use Rattle.books.specs.Book.{Message, Placement, identifiers, numbers, all_placements}
use Rattle.books.specs.Words.{placement_starts, ends_after, messages_of, messages_taken_spec, froms, tos, routes_of, Stands}
use Rattle.books.proofs.Columns.{Within, within, taken_stands, take_column, length_ends, ids_stand, ends_stand, numbers_stand, starts_stand}
use Rattle.books.proofs.RouteColumns.{froms_are, tos_are}
use Rattle.route_tables.specs.Tables.{RoutesTaken}
use Rattle.route_tables.proofs.Shown.{few_shown, few_counted}

-- the first entries of a column, by a count
pub lent : {m n : ℕ} {c d : List ℕ} → m ≡ n → c ≡ d → take m c ≡ take n d
lent {m} {n} {c} {d} e f = ap (λ (k : ℕ). take k c) e ∙ ap (take n) f

-- ---- messages and signals
module _ (w : List ℕ) (t : messages_taken_spec w ≡ true) where
  abbrev pub ms : List Message
  ms = messages_of w

  pub stand : Stands w ms
  stand = (taken_stands w t).0

  pub limits : Within ms
  limits = within ms (taken_stands w t).1

  pub messages_counted : message_count_of w ≤ message_limit
  messages_counted = omega (arith, stand.messages, limits.few)

  pub signals_counted : signal_count_of w ≤ signal_limit
  signals_counted = omega (arith, stand.signals, limits.room)

  pub ids_shown : take (message_count_of w) (ids_of w) ≡ identifiers ms
  ids_shown =
      ap (take (message_count_of w)) (ids_stand w ms limits.few limits.room stand) ∙
      take_column message_limit (message_count_of w) (identifiers ms) (length-map ms (λ (m : Message). m.identifier) ∙ sym stand.messages)

  pub ends_shown : take (message_count_of w) (ends_of w) ≡ ends_after 0 ms
  ends_shown =
      ap (take (message_count_of w)) (ends_stand w ms limits.few limits.room stand) ∙
      take_column message_limit (message_count_of w) (ends_after 0 ms) (length_ends 0 ms ∙ sym stand.messages)

  pub numbers_shown : take (signal_count_of w) (numbers_of w) ≡ numbers (all_placements ms)
  numbers_shown =
      ap (take (signal_count_of w)) (numbers_stand w ms limits.few limits.room stand) ∙
      take_column signal_limit (signal_count_of w) (numbers (all_placements ms)) (length-map (all_placements ms) (λ (p : Placement). p.number) ∙ sym stand.signals)

  pub starts_shown : take (signal_count_of w) (starts_of w) ≡ placement_starts (all_placements ms)
  starts_shown =
      ap (take (signal_count_of w)) (starts_stand w ms limits.few limits.room stand) ∙
      take_column signal_limit (signal_count_of w) (placement_starts (all_placements ms)) (length-map (all_placements ms) (λ (p : Placement). p.start) ∙ sym stand.signals)

-- ---- routes
module _ (w : List ℕ) (t : RoutesTaken w) where
  pub routes_counted : route_count_of w ≤ route_limit
  routes_counted = few_counted w t.stand

  pub froms_shown : take (route_count_of w) (froms_of w) ≡ froms (routes_of w)
  froms_shown = froms_are w (routes_of w) (few_shown w) t.stand

  pub tos_shown : take (route_count_of w) (tos_of w) ≡ tos (routes_of w)
  tos_shown = tos_are w (routes_of w) (few_shown w) t.stand
