-- What the columns say in words that hold a book. Assumes nothing.
use mathlib.Core.Path.{◌≡◌, sym, ap, ◌∙◌, subst}
use mathlib.Core.List.{List, [], ◌∷◌}
use Prim.Native.Nat.{ℕ, ◌-◌, ◌≤◌, ◌<◌}
use native.Mathlib.Nat.{zero-add}
use native.Mathlib.Omega.{arith}
use lib.ListN.{length, take, drop, get_or, length-map}
use Rattle.books.specs.Book.{Placement, Message, Book, identifiers, numbers, all_placements, last_placements}
use Rattle.books.specs.Lines.{message_limit}
use Rattle.books.specs.Words.{end_column, number_column, messages_of, Stands, RoutesStand}
use Rattle.books.proofs.Columns.{take_column, ids_stand, ends_stand, numbers_stand, shows, words_stand}
use Rattle.books.proofs.RouteColumns.{words_routes}
use Rattle.books.proofs.Parts.{begin_of, end_of, order, part_stands, begin_stands, last_end, last_at}
use Rattle.record.specs.Columns.{message_count_of, signal_count_of, route_count_of, ids_of, ends_of, numbers_of}
use Rattle.tables.specs.Adding.{Holds}

-- where the signals of the last message begin
abbrev Begin : List Message → ℕ
Begin ms = get_or (0 ∷ end_column ms) (length ms - 1) 0

-- its part of the numbers, which is the last
record Part (ms : List Message) : Type 0 where
  first : Begin ms ≤ length (all_placements ms)
  numbers_part : take (length (all_placements ms) - Begin ms) (drop (Begin ms) (number_column ms)) ≡ numbers (last_placements ms)

part : (ms : List Message) → 0 < length ms → Part ms
part [] h = absurd (omega arith)
part (m ∷ ms) h =
    let there : length ms < length (m ∷ ms) = omega arith in
    let at : length (m ∷ ms) - 1 ≡ length ms = omega arith in
    let b : Begin (m ∷ ms) ≡ begin_of 0 (m ∷ ms) (length ms) = ap (λ (i : ℕ). get_or (0 ∷ end_column (m ∷ ms)) i 0) at ∙ begin_stands (m ∷ ms) (length ms) there in
    let e : length (all_placements (m ∷ ms)) ≡ end_of 0 (m ∷ ms) (length ms) = sym (last_end 0 m ms ∙ zero-add (length (all_placements (m ∷ ms)))) in
    record {
      first = omega (arith, b, e, order (m ∷ ms) (length ms) there);
      numbers_part = rw (b, e) (part_stands (m ∷ ms) (length ms) there (λ (p : Placement). p.number)) ∙ ap numbers (last_at m ms);
    }

module _ (w : List ℕ) (b : Book) (h : Holds w b) where
  stands : Stands w b.messages
  stands = subst (λ (v : List ℕ). Stands v b.messages) (sym h.words) (words_stand b h.within.messages h.within.signals)

  pub routes_stand : RoutesStand w b.routes
  routes_stand = subst (λ (v : List ℕ). RoutesStand v b.routes) (sym h.words) (words_routes b h.within.messages h.within.signals h.within.routes)

  pub messages_shown : messages_of w ≡ b.messages
  messages_shown = shows w b.messages h.within.messages h.within.signals stands

  pub messages_held : message_count_of w ≡ length b.messages
  messages_held = stands.messages

  pub signals_held : signal_count_of w ≡ length (all_placements b.messages)
  signals_held = stands.signals

  pub routes_held : route_count_of w ≡ length b.routes
  routes_held = routes_stand.count

  pub ids_held : take (message_count_of w) (ids_of w) ≡ identifiers b.messages
  ids_held =
      rw (messages_held, ids_stand w b.messages h.within.messages h.within.signals stands)
      (take_column message_limit (length b.messages) (identifiers b.messages) (length-map b.messages (λ (m : Message). m.identifier)))

  ends_held : ends_of w ≡ end_column b.messages
  ends_held = ends_stand w b.messages h.within.messages h.within.signals stands

  -- the last message's signals
  module _ (m s f : ℕ) (em : m ≡ message_count_of w) (es : s ≡ signal_count_of w) (ef : f ≡ get_or (0 ∷ ends_of w) (m - 1) 0) (some : 0 < m) where
    some_held : 0 < length b.messages
    some_held = rw (em ∙ messages_held) at some

    begins : f ≡ Begin b.messages
    begins = ef ∙ rw (em ∙ messages_held, ends_held)

    pub last_in : f ≤ s
    last_in = rw (begins, es ∙ signals_held) (part b.messages some_held).first

    pub last_held : numbers (last_placements b.messages) ≡ take (s - f) (drop f (numbers_of w))
    last_held =
        rw (begins, es ∙ signals_held, numbers_stand w b.messages h.within.messages h.within.signals stands)
        (sym (part b.messages some_held).numbers_part)
