-- How long the text of a book is: 11 bytes for each message, and those of the lines of its signals and routes. Assumes nothing.
use mathlib.Core.Path.{◌≡◌, refl, ap, ◌∙◌}
use Prim.Native.Nat.{ℕ, ◌+◌, ◌*◌, ◌≤◌}
use native.Mathlib.Omega.{arith}
use mathlib.Core.List.{List, [], ◌∷◌, ◌++◌, map, map-append}
use lib.ListN.{length}
use Rattle.numerals.proofs.Decimals.{width_few}
use Rattle.parts.specs.Joined.{text_of_lines}
use Rattle.line.specs.declared.Line.{Line}
use Rattle.line.specs.declared.Line.TheVariants as line
use Rattle.books.specs.Book.{Book, Message, Placement, Route, all_placements}
use Rattle.reading.specs.Written.{signal_line, route_line, message_lines, book_lines, lines_text, book_text}
use Rattle.reading.proofs.LineLengths.{message_long, signal_long, route_short, both_long}

-- of the S lines of placements
abbrev pub signal_bytes : List Placement → ℕ
signal_bytes ps = length (lines_text (map signal_line ps))

pub one_signal : (p : Placement) (ps : List Placement) → signal_bytes (p ∷ ps) ≡ length (lines_text (signal_line p ∷ [])) + signal_bytes ps
one_signal p ps = both_long (signal_line p ∷ []) (map signal_line ps)

-- a line of a signal has at most 14 bytes, whatever its numbers
pub signals_few : (ps : List Placement) → signal_bytes ps ≤ 14 * length ps
unfolding text_of_lines
signals_few [] = omega arith
signals_few (p ∷ ps) = omega (arith, one_signal p ps, signal_long p.number p.start, width_few p.number, width_few p.start, signals_few ps)

pub signals_append : (ps qs : List Placement) → signal_bytes (ps ++ qs) ≡ signal_bytes ps + signal_bytes qs
signals_append ps qs = ap (λ (l : List Line). length (lines_text l)) (map-append signal_line ps qs) ∙ both_long (map signal_line ps) (map signal_line qs)

-- of M lines with their S lines
pub messages_long : (ms : List Message) → length (lines_text (message_lines ms)) ≡ 11 * length ms + signal_bytes (all_placements ms)
unfolding message_lines all_placements text_of_lines
messages_long [] = refl
messages_long (m ∷ ms) =
    omega (
      arith,
      both_long (line.Message m.identifier ∷ []) (map signal_line m.placements ++ message_lines ms),
      both_long (map signal_line m.placements) (message_lines ms),
      message_long m.identifier,
      signals_append m.placements (all_placements ms),
      messages_long ms,
    )

-- of R lines
abbrev pub route_bytes : List Route → ℕ
route_bytes rs = length (lines_text (map route_line rs))

pub one_route : (r : Route) (rs : List Route) → route_bytes (r ∷ rs) ≡ length (lines_text (route_line r ∷ [])) + route_bytes rs
one_route r rs = both_long (route_line r ∷ []) (map route_line rs)

pub routes_few : (rs : List Route) → route_bytes rs ≤ 32 * length rs
unfolding text_of_lines
routes_few [] = omega arith
routes_few (r ∷ rs) = omega (arith, one_route r rs, route_short r.from r.to, routes_few rs)

pub text_long : (b : Book) → length (book_text b) ≡ 11 * length b.messages + signal_bytes (all_placements b.messages) + route_bytes b.routes
unfolding book_text book_lines
text_long b = omega (arith, both_long (message_lines b.messages) (map route_line b.routes), messages_long b.messages)
