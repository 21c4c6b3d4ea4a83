-- A book stays within the limits with each line that is taken. Assumes nothing.
use mathlib.Core.Path.{◌≡◌, ap}
use mathlib.Core.Bool.{true, ◌||◌, not}
use mathlib.Core.List.{List, [], ◌∷◌}
use Prim.Native.Nat.{ℕ, ◌<◌}
use native.Mathlib.Nat.{pos_of_ne-zero}
use native.Mathlib.Omega.{arith}
use lib.Dec.{leb}
use lib.ListN.{length, length-append}
use borrow.Author.Tests.{leb-false}
use Rattle.books.specs.Book.{Placement, Message, Route, Book, no_book, all_placements, fresh, last_placements, numbers, with_message, with_signal, with_route}
use Rattle.books.specs.Lines.{is_in, unknown_or_over, misplaced, message_refusal, signal_refusal, route_refusal, signal_limit, route_limit, identifier_limit, bus_limit}
use Rattle.books.proofs.Tests.{not_refused, neither, nor, both_false}
use Rattle.books.proofs.Ends.{one_more}
use Rattle.books.proofs.Building.{message_taken, signal_taken}
use Rattle.placing.specs.Placing.{stands_alone}
use Rattle.tables.specs.Adding.{Within}
use Rattle.tables.proofs.Longer.{placements_stay}

-- ---- what a line that is taken tells

-- an `S` line that is taken has a message above it, a signal that stands where it may by itself, and room
pub record SignalRoom (ms : List Message) (p : Placement) : Type 0 where
  pub some : 0 < length ms
  pub alone : stands_alone p ≡ true
  pub room : length (all_placements ms) < signal_limit

pub signal_room : (ms : List Message) (p : Placement) → signal_refusal ms p ≡ 0 → SignalRoom ms p
signal_room ms p e =
    let t = signal_taken ms p e in
    let a = neither (unknown_or_over p) _ t.fits in
    let d = both_false (misplaced p) _ (both_false (is_in p.number (numbers (last_placements ms))) _ a.1).1 in
    record { some = pos_of_ne-zero t.there; alone = ap not (nor (unknown_or_over p) (misplaced p) a.0 d.0); room = t.room }

route_room : (rs : List Route) (a i b j : ℕ) → route_refusal rs a i b j ≡ 0 → length rs < route_limit
unfolding route_refusal
route_room rs a i b j e =
    let f = not_refused ((leb bus_limit a || leb identifier_limit i) || (leb bus_limit b || leb identifier_limit j)) 2 _ e in
    leb-false _ _ (not_refused (leb route_limit (length rs)) 8 0 f.1).0

-- ---- the limits
pub within_none : Within no_book
unfolding all_placements
within_none = record { messages = omega arith; signals = omega arith; routes = omega arith }

module _ (b : Book) (h : Within b) where
  pub within_message : (i : ℕ) → message_refusal b.messages i ≡ 0 → Within (with_message b i)
  within_message i e = record {
    messages = omega (arith, length-append b.messages (fresh i ∷ []), (message_taken b.messages i e).few);
    signals = rw (placements_stay b.messages i) h.signals;
    routes = h.routes;
  }

  pub within_route : (a i c j : ℕ) (x : Route) → route_refusal b.routes a i c j ≡ 0 → Within (with_route b x)
  within_route a i c j x e = record {
    messages = h.messages;
    signals = h.signals;
    routes = omega (arith, length-append b.routes (x ∷ []), route_room b.routes a i c j e);
  }

pub within_signal : (b : Book) → Within b → (p : Placement) → signal_refusal b.messages p ≡ 0 → Within (with_signal b p)
within_signal b h p e =
    let r = signal_room b.messages p e in
    let m = one_more b.messages p r.some in
    record { messages = omega (arith, m.0, h.messages); signals = omega (arith, m.1, r.room); routes = h.routes }
