-- What lines that pass are counted to: the book's counts are counts of lines, and the line numbers kept are those of the R lines. Assumes nothing.
use mathlib.Core.Path.{◌≡◌, ap, ◌∙◌}
use Prim.Native.Nat.{ℕ, suc, ◌+◌, ◌<◌}
use native.Mathlib.Omega.{arith}
use native.Mathlib.Nat.{add-suc, pos_of_ne-zero}
use mathlib.Core.List.{List, [], ◌∷◌, ◌++◌, append_assoc, append-nil}
use lib.ListN.{length}
use Rattle.line.specs.declared.Line.{Line}
use Rattle.line.specs.declared.Line.TheVariants as line
use Rattle.record.specs.Place.{place_key, place_limit, key_fits}
use Rattle.books.specs.Book.{Book, Placement, Route, no_book, fresh, all_placements, route_between}
use Rattle.books.specs.Lines.{route_refusal}
use Rattle.books.proofs.RouteLines.{route_allowed}
use Rattle.books.proofs.Ends.{count_last, length_more, one_more}
use Rattle.books.proofs.Building.{signal_taken}
use Rattle.reading.specs.Reading.{passed, refusal_of, with_line, numbered_with, read_from, meanings, lines_read}
use Rattle.reading.specs.Written.{BetweenPlaces, no_route, route, Routed}
use Rattle.reading.specs.Taken.{m_lines, s_lines, r_lines_from, CountedOn}
use Rattle.reading.proofs.Passing.{went, same_book, text_kept}

-- what follows a line is counted on from it
module _ (n : ℕ) (b : Book) (at : List ℕ) (ls : List Line) {c : Book} {to : List ℕ} where
  after : (l : Line) → refusal_of b l ≡ 0 → CountedOn (suc n) (with_line b l) (numbered_with at n l) ls c to → CountedOn n b at (l ∷ ls) c to
  unfolding refusal_of with_line numbered_with m_lines s_lines r_lines_from
  after (line.Message i) e k = record {
    messages = omega (arith, k.messages, length_more b.messages (fresh i), add-suc (length b.messages) (m_lines ls));
    signals = omega (arith, k.signals, count_last b.messages (fresh i));
    routes = k.routes;
    numbers = k.numbers;
  }
  after (line.Signal m s) e k =
      let p : Placement = record { number = m; start = s } in
      let one = one_more b.messages p (pos_of_ne-zero (signal_taken b.messages p e).there) in
      record {
        messages = omega (arith, k.messages, one.0);
        signals = omega (arith, k.signals, one.1, add-suc (length (all_placements b.messages)) (s_lines ls));
        routes = k.routes;
        numbers = k.numbers;
      }
  after (line.Route x i y j) e k = record {
    messages = k.messages;
    signals = k.signals;
    routes = omega (arith, k.routes, length_more b.routes (route_between (place_key x i) (place_key y j)), add-suc (length b.routes) (length (r_lines_from (suc n) ls)));
    numbers = k.numbers ∙ append_assoc at (n ∷ []) (r_lines_from (suc n) ls);
  }
  after line.IllFormed e k = let z : ◌≡◌ {A = ℕ} 2 0 = e in absurd (omega arith)

pub counted : (n : ℕ) (b : Book) (at : List ℕ) (ls : List Line) {c : Book} {to : List ℕ} → read_from n b at ls ≡ passed c to → CountedOn n b at ls c to
unfolding read_from m_lines s_lines r_lines_from
counted n b at [] e =
    let f = same_book e in
    record {
      messages = omega (arith, ap (λ (x : Book). length x.messages) f);
      signals = omega (arith, ap (λ (x : Book). length (all_placements x.messages)) f);
      routes = omega (arith, ap (λ (x : Book). length x.routes) f);
      numbers = let z = append-nil at in (cc);
    }
counted n b at (l ∷ ls) e =
    let w = went (refusal_of b l) n (read_from (suc n) (with_line b l) (numbered_with at n l) ls) e in
    after n b at ls l w.taken (counted (suc n) (with_line b l) (numbered_with at n l) ls w.after)

places_more : {rs : List Route} (r : Route) → BetweenPlaces rs → r.from < place_limit → r.to < place_limit → BetweenPlaces (rs ++ (r ∷ []))
places_more r no_route f t = route f t no_route
places_more r (route g u p) f t = route g u (places_more r p f t)

routed_route : (rs : List Route) (x i y j : ℕ) → Routed rs → route_refusal rs x i y j ≡ 0 → Routed (rs ++ (route_between (place_key x i) (place_key y j) ∷ []))
routed_route rs x i y j h e =
    let a = route_allowed rs x i y j e in
    record {
      few = omega (arith, length_more rs (route_between (place_key x i) (place_key y j)), a.few);
      places = places_more (route_between (place_key x i) (place_key y j)) h.places
          (key_fits x i a.from_bus a.from_identifier) (key_fits y j a.to_bus a.to_identifier);
    }

routed_with : (b : Book) (l : Line) → Routed b.routes → refusal_of b l ≡ 0 → Routed (with_line b l).routes
unfolding refusal_of with_line
routed_with b (line.Message i) h e = h
routed_with b (line.Signal n s) h e = h
routed_with b (line.Route x i y j) h e = routed_route b.routes x i y j h e
routed_with b line.IllFormed h e = h

-- of a text
pub text_counted : (text : List ℕ) {c : Book} {to : List ℕ} → lines_read text ≡ passed c to → CountedOn 1 no_book [] (meanings text) c to
unfolding lines_read
text_counted text e = counted 1 no_book [] (meanings text) e

pub text_routed : (text : List ℕ) {c : Book} {to : List ℕ} → lines_read text ≡ passed c to → Routed c.routes
text_routed text e =
    text_kept (λ b ls. Routed b.routes) (λ b l ls r h. routed_with b l h r) text e (record { few = omega arith; places = no_route })
