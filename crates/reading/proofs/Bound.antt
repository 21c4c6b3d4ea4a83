-- No book's text is longer than 4,800 bytes: an M line has 11, an S line at most 10, an R line 24. Assumes nothing.
use mathlib.Core.Path.{◌≡◌, refl}
use mathlib.Core.Bool.{Bool, true, false, ◌||◌, not, cond, and-eq-true_iff}
use Prim.Native.Nat.{ℕ, ◌+◌, ◌*◌, ◌≤◌, ◌<◌}
use native.Mathlib.Omega.{arith}
use mathlib.Core.List.{List, [], ◌∷◌, ◌++◌}
use lib.Dec.{eqb, ltb, leb}
use lib.ListN.{length, length-append}
use borrow.Author.Tests.{leb-false, eqb-false, lt-ltb}
use Rattle.numerals.specs.Written.{decimal_width_spec}
use Rattle.parts.specs.Joined.{text_of_lines}
use Rattle.books.specs.Book.{Book, Message, Placement, Route, numbers, all_placements}
use Rattle.books.specs.Lines.{is_in, unknown_or_over, misplaced, meets_earlier, identifier_limit, start_limit}
use Rattle.books.specs.Good.{fits_after, good_after, good_from, good}
use Rattle.books.specs.Built.{Built}
use Rattle.books.proofs.Building.{built_good}
use Rattle.books.proofs.Columns.{within}
use Rattle.books.proofs.Known.{known_small}
use Rattle.books.proofs.Tests.{both_false, neither}
use Rattle.catalogue.specs.Find.{bits_of_spec}
use Rattle.reading.specs.Written.{book_text, most_written, BetweenPlaces, no_route, route, Routed}
use Rattle.reading.proofs.LineLengths.{signal_long, route_long}
use Rattle.reading.proofs.TextLengths.{signal_bytes, route_bytes, one_signal, one_route, signals_append, text_long}

-- a number below 2000 has at most four digits, one below 64 at most two
four_digits : (n : ℕ) → n < 2000 → decimal_width_spec n ≤ 4
unfolding decimal_width_spec
four_digits n h = go (ltb n 10) (ltb n 100) (ltb n 1000)
  where
    go : (a b c : Bool) → cond a 1 (cond b 2 (cond c 3 (cond (ltb n 10000) 4 5))) ≤ 4
    go true b c = omega arith
    go false true c = omega arith
    go false false true = omega arith
    go false false false = rw (lt-ltb n 10000 (omega arith)) (omega arith)

two_digits : (n : ℕ) → n < 64 → decimal_width_spec n ≤ 2
unfolding decimal_width_spec
two_digits n h = go (ltb n 10)
  where
    go : (a : Bool) → cond a 1 (cond (ltb n 100) 2 (cond (ltb n 1000) 3 (cond (ltb n 10000) 4 5))) ≤ 2
    go true = omega arith
    go false = rw (lt-ltb n 100 (omega arith)) (omega arith)

-- a signal that is not refused for itself has a short line
fits_short : (before : List Placement) (p : Placement) → fits_after before p ≡ true → decimal_width_spec p.number + decimal_width_spec p.start ≤ 6
unfolding unknown_or_over
fits_short before p e =
    let a = both_false (eqb (bits_of_spec p.number) 0) (leb start_limit p.start) (neither (unknown_or_over p) (is_in p.number (numbers before) || (misplaced p || meets_earlier before p)) e).0 in
    let b = leb-false start_limit p.start a.1 in
    omega (arith, four_digits p.number (known_small p.number (eqb-false (bits_of_spec p.number) 0 a.0)), two_digits p.start b)

after_short : (before ps : List Placement) → good_after before ps ≡ true → signal_bytes ps ≤ 10 * length ps
unfolding good_after text_of_lines
after_short before [] e = omega arith
after_short before (p ∷ ps) e =
    let a = (and-eq-true_iff (fits_after before p) (good_after (before ++ (p ∷ [])) ps)).0 e in
    omega (arith, one_signal p ps, signal_long p.number p.start, fits_short before p a.0, after_short (before ++ (p ∷ [])) ps a.1)

from_short : (before : List ℕ) (ms : List Message) → good_from before ms ≡ true → signal_bytes (all_placements ms) ≤ 10 * length (all_placements ms)
unfolding good_from all_placements text_of_lines
from_short before [] e = omega arith
from_short before (m ∷ ms) e =
    let a = (and-eq-true_iff (not (leb identifier_limit m.identifier || is_in m.identifier before)) _).0 e in
    let b = (and-eq-true_iff (good_after [] m.placements) (good_from (before ++ (m.identifier ∷ [])) ms)).0 a.1 in
    omega (
      arith,
      signals_append m.placements (all_placements ms),
      length-append m.placements (all_placements ms),
      after_short [] m.placements b.0,
      from_short (before ++ (m.identifier ∷ [])) ms b.1,
    )

-- the lines of routes between places have 24 bytes each
routes_short : {rs : List Route} → BetweenPlaces rs → route_bytes rs ≡ 24 * length rs
unfolding text_of_lines
routes_short no_route = refl
routes_short (route {r} {rs} f t p) = omega (arith, one_route r rs, route_long r.from r.to f t, routes_short p)

pub bound : (b : Book) → Built b.messages → Routed b.routes → length (book_text b) ≤ most_written
unfolding good
bound b h r =
    let g = built_good h in
    let k = within b.messages g in
    let a = (and-eq-true_iff (good_from [] b.messages) _).0 g in
    omega (arith, text_long b, k.few, k.room, from_short [] b.messages a.0, routes_short r.places, r.few)
