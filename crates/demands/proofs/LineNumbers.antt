-- "its line": the routes that the reader keeps are those of the text's R lines, each with the number of its own line; and these numbers
-- rise, so the lowest route is on the lowest R line. Assumes nothing.
use mathlib.Core.Path.{◌≡◌, refl, sym, ◌∙◌}
use Prim.Native.Nat.{ℕ, zero, suc, ◌≤◌, ◌<◌}
use native.Mathlib.Omega.{arith}
use mathlib.Core.List.{List, [], ◌∷◌, ◌++◌, append_assoc, append-nil}
use lib.ListN.{length, get_or}
use Rattle.line.specs.declared.Line.{Line}
use Rattle.line.specs.declared.Line.TheVariants as line
use Rattle.books.specs.Book.{Book, route}
use Rattle.reading.specs.Reading.{passed, with_line, lines_read, meanings}
use Rattle.reading.specs.Taken.{froms, tos, r_lines_from}
use Rattle.reading.proofs.Passing.{text_kept}
use Rattle.reading.proofs.Counts.{text_counted}
use Rattle.demands.specs.RLines.{r_lines_in}
use Rattle.demands.specs.Text.{r_routes, text_routes, RouteAt}

-- the numbers of R lines from line n on are n or more
after : (n : ℕ) (ls : List Line) (i : ℕ) → i < length (r_lines_from n ls) → n ≤ get_or (r_lines_from n ls) i 0
unfolding r_lines_from
after n [] i h = absurd (omega arith)
after n (line.Message m ∷ ls) i h = omega (arith, after (suc n) ls i h)
after n (line.Signal m s ∷ ls) i h = omega (arith, after (suc n) ls i h)
after n (line.Route a b c d ∷ ls) zero h = omega arith
after n (line.Route a b c d ∷ ls) (suc i) h = omega (arith, after (suc n) ls i (omega arith))
after n (line.IllFormed ∷ ls) i h = omega (arith, after (suc n) ls i h)

pub rising : (n : ℕ) (ls : List Line) (i j : ℕ) → i < j → j < length (r_lines_from n ls) → get_or (r_lines_from n ls) i 0 < get_or (r_lines_from n ls) j 0
unfolding r_lines_from
rising n [] i j h l = absurd (omega arith)
rising n (line.Message m ∷ ls) i j h l = rising (suc n) ls i j h l
rising n (line.Signal m s ∷ ls) i j h l = rising (suc n) ls i j h l
rising n (line.Route a b c d ∷ ls) i zero h l = absurd (omega arith)
rising n (line.Route a b c d ∷ ls) zero (suc j) h l = omega (arith, after (suc n) ls j (omega arith))
rising n (line.Route a b c d ∷ ls) (suc i) (suc j) h l = rising (suc n) ls i j (omega arith) (omega arith)
rising n (line.IllFormed ∷ ls) i j h l = rising (suc n) ls i j h l

-- the line numbers that the reader keeps are those of the text's R lines, counted from 1
pub kept : (text : List ℕ) {b : Book} {at : List ℕ} → lines_read text ≡ passed b at → at ≡ r_lines_from 1 (meanings text)
kept text e = (text_counted text e).numbers

-- one line more: its route, if it is an R line, comes before those of the lines after it
routes_with : (b : Book) (l : Line) (ls : List Line) → (with_line b l).routes ++ r_routes ls ≡ b.routes ++ r_routes (l ∷ ls)
unfolding with_line r_routes r_lines_in
routes_with b (line.Message i) ls = refl
routes_with b (line.Signal n s) ls = refl
routes_with b (line.Route x i y j) ls = append_assoc b.routes (route x i y j ∷ []) (r_routes ls)
routes_with b line.IllFormed ls = refl

-- the routes that the reader keeps are those that the text's R lines say
pub routes_of_text : (text : List ℕ) {b : Book} {at : List ℕ} → lines_read text ≡ passed b at → b.routes ≡ text_routes text
unfolding r_routes r_lines_in
routes_of_text text {b} e =
    sym (append-nil b.routes) ∙ text_kept (λ c ls. c.routes ++ r_routes ls ≡ text_routes text) (λ c l ls r h. routes_with c l ls ∙ h) text e refl

-- a line more before them
later : (n : ℕ) (l : Line) (ls : List Line) {k p q : ℕ} → RouteAt (suc n) ls k p q → RouteAt n (l ∷ ls) k p q
later n l ls s = record {
  before = suc s.before;
  number = omega (arith, s.number);
  bus = s.bus;
  identifier = s.identifier;
  to_bus = s.to_bus;
  to_identifier = s.to_identifier;
  says = s.says;
  from = s.from;
  to = s.to;
}

at_line : (n : ℕ) (ls : List Line) (i : ℕ) → i < length (r_lines_from n ls)
    → RouteAt n ls (get_or (r_lines_from n ls) i 0) (get_or (froms (r_routes ls)) i 0) (get_or (tos (r_routes ls)) i 0)
unfolding r_lines_from r_routes r_lines_in
at_line n [] i h = absurd (omega arith)
at_line n (line.Message m ∷ ls) i h = later n (line.Message m) ls (at_line (suc n) ls i h)
at_line n (line.Signal m s ∷ ls) i h = later n (line.Signal m s) ls (at_line (suc n) ls i h)
at_line n (line.Route a b c d ∷ ls) zero h = record {
  before = 0;
  number = omega arith;
  bus = a;
  identifier = b;
  to_bus = c;
  to_identifier = d;
  says = refl;
  from = refl;
  to = refl;
}
at_line n (line.Route a b c d ∷ ls) (suc i) h = later n (line.Route a b c d) ls (at_line (suc n) ls i (omega arith))
at_line n (line.IllFormed ∷ ls) i h = later n line.IllFormed ls (at_line (suc n) ls i h)

-- and the line number that it keeps for a route is that of the route's R line
pub line_of_route : (text : List ℕ) {b : Book} {at : List ℕ} → lines_read text ≡ passed b at → (i : ℕ) → i < length b.routes
    → RouteAt 1 (meanings text) (get_or at i 0) (get_or (froms b.routes) i 0) (get_or (tos b.routes) i 0)
line_of_route text e i h = rw (routes_of_text text e, kept text e) (at_line 1 (meanings text) i (omega (arith, h, (text_counted text e).routes)))
