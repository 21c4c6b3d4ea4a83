-- The lines of a book, read, give the book. Assumes nothing.
use mathlib.Core.Path.{◌≡◌, refl, sym, ap, ◌∙◌, subst}
use Prim.Native.Nat.{ℕ, suc, ◌+◌, ◌≤◌, ◌<◌, ◌/◌, ◌%◌}
use native.Mathlib.Omega.{arith}
use mathlib.Core.List.{List, [], ◌∷◌, ◌++◌, map, append_assoc, append-nil}
use lib.ListN.{length, length-append}
use Rattle.line.specs.declared.Line.{Line}
use Rattle.line.specs.declared.Line.TheVariants as line
use Rattle.record.specs.Limits.{identifier_limit}
use Rattle.record.specs.Place.{place_key, place_limit, key_place}
use borrow.Author.Tests.{lt-leb}
use Rattle.books.specs.Book.{Book, Message, Placement, Route, no_book, fresh, with_placement, in_last, route_between}
use Rattle.books.specs.Lines.{signal_refusal, route_refusal, unknown_or_over, route_limit}
use Rattle.books.proofs.Tests.{not_refused, no_refusal, nor}
use Rattle.books.specs.Built.{Built, none, message, signal}
use Rattle.books.proofs.Ends.{map-append, in_last_law, Last, last}
use Rattle.reading.specs.Reading.{passed, refusal_of, with_line, numbered_with, read_from}
use Rattle.reading.specs.Written.{signal_line, route_line, message_lines, book_lines, BetweenPlaces, route, count_up}
use Rattle.reading.proofs.Passing.{goes_on, read_append}

lines_append : (ms ns : List Message) → message_lines (ms ++ ns) ≡ message_lines ms ++ message_lines ns
unfolding message_lines
lines_append [] ns = refl
lines_append (m ∷ ms) ns =
    ap (◌∷◌ (line.Message m.identifier))
    (ap (λ (l : List Line). map signal_line m.placements ++ l) (lines_append ms ns) ∙ sym (append_assoc (map signal_line m.placements) (message_lines ms) (message_lines ns)))

-- one message more, one signal more
pub lines_message : (ms : List Message) (i : ℕ) → message_lines (ms ++ (fresh i ∷ [])) ≡ message_lines ms ++ (line.Message i ∷ [])
unfolding message_lines
lines_message ms i = lines_append ms (fresh i ∷ [])

one_message_law : (m : Message) → message_lines (m ∷ []) ≡ line.Message m.identifier ∷ map signal_line m.placements
unfolding message_lines
one_message_law m = ap (◌∷◌ (line.Message m.identifier)) (append-nil (map signal_line m.placements))

lines_last : (ms : List Message) (m : Message) (p : Placement) → message_lines (in_last (ms ++ (m ∷ [])) p) ≡ message_lines (ms ++ (m ∷ [])) ++ (signal_line p ∷ [])
lines_last ms m p =
    ap message_lines (in_last_law ms m p) ∙ lines_append ms (with_placement m p ∷ []) ∙
    ap (λ (l : List Line). message_lines ms ++ l)
    (one_message_law (with_placement m p) ∙ ap (◌∷◌ (line.Message m.identifier)) (map-append signal_line m.placements (p ∷ [])) ∙ ap (λ (l : List Line). l ++ (signal_line p ∷ [])) (sym (one_message_law m))) ∙
    sym (append_assoc (message_lines ms) (message_lines (m ∷ [])) (signal_line p ∷ [])) ∙
    ap (λ (l : List Line). l ++ (signal_line p ∷ [])) (sym (lines_append ms (m ∷ [])))

-- an S line before any M is refused
no_message : (p : Placement) → signal_refusal [] p ≡ 0 → ⊥
unfolding signal_refusal
no_message p e = let a = not_refused (unknown_or_over p) 2 _ e in omega (arith, a.1)

pub lines_signal : (ms : List Message) (p : Placement) → signal_refusal ms p ≡ 0 → message_lines (in_last ms p) ≡ message_lines ms ++ (signal_line p ∷ [])
lines_signal [] p e = absurd (no_message p e)
lines_signal (m ∷ ms) p e = go (last m ms)
  where
    go : Last (m ∷ ms) → message_lines (in_last (m ∷ ms) p) ≡ message_lines (m ∷ ms) ++ (signal_line p ∷ [])
    go r = subst (λ (l : List Message). message_lines (in_last l p) ≡ message_lines l ++ (signal_line p ∷ [])) (sym r.whole) (lines_last r.before r.last p)

abbrev pub only_messages : List Message → Book
only_messages ms = record { messages = ms; routes = [] }

-- the lines of messages that lines build
messages_read : {ms : List Message} → Built ms → read_from 1 no_book [] (message_lines ms) ≡ passed (only_messages ms) []
unfolding message_lines read_from refusal_of with_line numbered_with
messages_read none = refl
messages_read (message {ms} i b e) =
    ap (read_from 1 no_book []) (lines_message ms i) ∙ read_append 1 no_book [] (message_lines ms) (line.Message i ∷ []) (messages_read b) ∙ goes_on _ _ _ e
messages_read (signal {ms} p b e) =
    ap (read_from 1 no_book []) (lines_signal ms p e) ∙ read_append 1 no_book [] (message_lines ms) (signal_line p ∷ []) (messages_read b) ∙ goes_on _ _ _ e

-- the line of a route passes, and gives the route
route_taken : (before : List Route) (r : Route) → length before < route_limit → r.from < place_limit → r.to < place_limit
    → route_refusal before (r.from / identifier_limit) (r.from % identifier_limit) (r.to / identifier_limit) (r.to % identifier_limit) ≡ 0
unfolding route_refusal
route_taken before r h f t =
    let a = key_place r.from f in
    let b = key_place r.to t in
    no_refusal _ 3 _
    (nor _ _ (nor _ _ (lt-leb _ _ a.0) (lt-leb _ _ a.1)) (nor _ _ (lt-leb _ _ b.0) (lt-leb _ _ b.1)))
    (no_refusal _ 9 0 (lt-leb _ _ h) refl)

route_back : (r : Route) → r.from < place_limit → r.to < place_limit
    → route_between (place_key (r.from / identifier_limit) (r.from % identifier_limit)) (place_key (r.to / identifier_limit) (r.to % identifier_limit)) ≡ r
route_back r f t =
    ap (λ (x : ℕ). route_between x (place_key (r.to / identifier_limit) (r.to % identifier_limit))) (key_place r.from f).2 ∙ ap (route_between r.from) (key_place r.to t).2

abbrev with_routes : List Message → List Route → Book
with_routes ms rs = record { messages = ms; routes = rs }

routes_read : (n : ℕ) (ms : List Message) (before : List Route) (at : List ℕ) (rs : List Route) → BetweenPlaces rs → length before + length rs ≤ route_limit
    → read_from n (with_routes ms before) at (map route_line rs) ≡ passed (with_routes ms (before ++ rs)) (at ++ count_up n (length rs))
unfolding read_from refusal_of with_line numbered_with count_up
routes_read n ms before at [] p h = let a = append-nil before in let b = append-nil at in (cc)
routes_read n ms before at (r ∷ rs) (route f t p) h =
    goes_on _ n _ (route_taken before r (omega arith) f t) ∙
    ap (λ (x : Route). read_from (suc n) (with_routes ms (before ++ (x ∷ []))) (at ++ (n ∷ [])) (map route_line rs)) (route_back r f t) ∙
    routes_read (suc n) ms (before ++ (r ∷ [])) (at ++ (n ∷ [])) rs p (omega (arith, length-append before (r ∷ []))) ∙
    let a = append_assoc before (r ∷ []) rs in
    let b = append_assoc at (n ∷ []) (count_up (suc n) (length rs)) in
    (cc)

-- the lines of a book whose messages are built line by line and whose routes are few enough
pub book_read : (b : Book) → Built b.messages → BetweenPlaces b.routes → length b.routes ≤ route_limit
    → read_from 1 no_book [] (book_lines b) ≡ passed b (count_up (1 + length (message_lines b.messages)) (length b.routes))
unfolding book_lines
book_read b h p l =
    read_append 1 no_book [] (message_lines b.messages) (map route_line b.routes) (messages_read h) ∙
    routes_read (1 + length (message_lines b.messages)) b.messages [] [] b.routes p (omega arith)
