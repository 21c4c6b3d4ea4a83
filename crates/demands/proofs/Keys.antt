-- A place's number tells its bus and its identifier: for R lines that pass, equal numbers are equal buses and identifiers, so chains of
-- routes between numbers are chains of R lines between buses and identifiers. Assumes nothing.
use mathlib.Core.Path.{◌≡◌, refl, sym, ap, ◌∙◌, subst}
use Prim.Native.Nat.{ℕ, zero, suc, ◌<◌}
use native.Mathlib.Omega.{arith}
use native.Mathlib.Nat.{le_of_suc-le-suc}
use mathlib.Core.List.{List, [], ◌∷◌, map}
use lib.ListN.{length, get_or, length-map, get_or-map}
use Rattle.record.specs.Limits.{identifier_limit}
use Rattle.record.specs.Place.{place_key, says_both}
use Rattle.chains.specs.Chain.{Walk, Chain}
use Rattle.chains.proofs.Walks.{walk_last}
use Rattle.line.specs.declared.Line.{Line}
use Rattle.line.specs.declared.Line.TheVariants as line
use Rattle.books.specs.Book.{Book, Route, no_book}
use Rattle.books.proofs.RouteLines.{route_allowed}
use Rattle.reading.specs.Reading.{passed, refusal_of, with_line, numbered_with, read_from, meanings, lines_read}
use Rattle.reading.specs.Taken.{froms, tos}
use Rattle.reading.proofs.Passing.{went}
use Rattle.demands.specs.Text.{line_route, r_routes, text_routes}
use Rattle.demands.specs.RLines.{RLine, no_line_spec, r_lines_in, text_r_lines, r_line_at, LineWalk, LineChain, InLimits, AllInLimits, none, more}

in_limits_at : {ls : List RLine} → AllInLimits ls → (k : ℕ) → k < length ls → InLimits (r_line_at ls k)
in_limits_at none k h = absurd (omega arith)
in_limits_at (more l a) zero h = l
in_limits_at (more l a) (suc k) h = in_limits_at a k (le_of_suc-le-suc h)

-- lines that pass are within the limits
lines_in_limits : (n : ℕ) (b : Book) (at : List ℕ) (ls : List Line) {c : Book} {to : List ℕ} → read_from n b at ls ≡ passed c to → AllInLimits (r_lines_in ls)
unfolding read_from r_lines_in refusal_of
lines_in_limits n b at [] e = none
lines_in_limits n b at (l ∷ ls) e =
    let w = went (refusal_of b l) n (read_from (suc n) (with_line b l) (numbered_with at n l) ls) e in
    by l w.taken (lines_in_limits (suc n) (with_line b l) (numbered_with at n l) ls w.after)
  where
    by : (l : Line) → refusal_of b l ≡ 0 → AllInLimits (r_lines_in ls) → AllInLimits (r_lines_in (l ∷ ls))
    by (line.Message i) e h = h
    by (line.Signal m s) e h = h
    by (line.Route x i y j) e h =
        let a = route_allowed b.routes x i y j e in
        more (record { from = record { on_bus = a.from_bus; identified = a.from_identifier }; to = record { on_bus = a.to_bus; identified = a.to_identifier } }) h
    by line.IllFormed e h = h

pub text_in_limits : (text : List ℕ) {b : Book} {at : List ℕ} → lines_read text ≡ passed b at → AllInLimits (text_r_lines text)
unfolding lines_read
text_in_limits text e = lines_in_limits 1 no_book [] (meanings text) e

-- what is said of the k-th route is said of the k-th R line; where there is none, both are of 0
side_at : (side : Route → ℕ) (ls : List Line) (k : ℕ) → get_or (map side (r_routes ls)) k (side (line_route no_line_spec)) ≡ side (line_route (r_line_at (r_lines_in ls) k))
unfolding r_routes
side_at side ls k = get_or-map side (map line_route (r_lines_in ls)) k (line_route no_line_spec) ∙ ap side (get_or-map line_route (r_lines_in ls) k no_line_spec)

from_at : (ls : List Line) (k : ℕ) → get_or (froms (r_routes ls)) k 0 ≡ place_key (r_line_at (r_lines_in ls) k).bus (r_line_at (r_lines_in ls) k).identifier
from_at ls k = side_at (λ (r : Route). r.from) ls k

to_at : (ls : List Line) (k : ℕ) → get_or (tos (r_routes ls)) k 0 ≡ place_key (r_line_at (r_lines_in ls) k).to_bus (r_line_at (r_lines_in ls) k).to_identifier
to_at ls k = side_at (λ (r : Route). r.to) ls k

lines_count : (ls : List Line) → length (r_routes ls) ≡ length (r_lines_in ls)
unfolding r_routes
lines_count ls = length-map (r_lines_in ls) line_route

module _ (text : List ℕ) where
  abbrev fs : List ℕ
  fs = froms (text_routes text)

  abbrev ts : List ℕ
  ts = tos (text_routes text)

  pub many : length fs ≡ length (text_r_lines text)
  many = length-map (text_routes text) (λ (r : Route). r.from) ∙ lines_count (meanings text)

  -- a chain of R lines is one of their routes
  walk_keyed : (a i : ℕ) (c : List ℕ) (b j : ℕ) → LineWalk (text_r_lines text) a i c b j → Walk fs ts (place_key a i) c (place_key b j)
  walk_keyed a i [] b j (e, f) = rw (e, f) refl
  walk_keyed a i (k ∷ c) b j (l, e, f, w) = (
    omega (arith, many),
    from_at (meanings text) k ∙ rw (e, f) refl,
    subst (λ (p : ℕ). Walk fs ts p c (place_key b j)) (sym (to_at (meanings text) k)) (walk_keyed (r_line_at (text_r_lines text) k).to_bus (r_line_at (text_r_lines text) k).to_identifier c b j w),
  )

  pub keyed : (a i : ℕ) (c : List ℕ) (b j : ℕ) → LineChain (text_r_lines text) a i c b j → Chain fs ts (place_key a i) c (place_key b j)
  keyed a i [] b j w = elim w [ ]
  keyed a i (k ∷ c) b j w = walk_keyed a i (k ∷ c) b j w

  -- and back, where the lines pass: equal numbers are equal buses and identifiers
  module _ (limits : AllInLimits (text_r_lines text)) where
    walk_unkeyed : (p : ℕ) (a i : ℕ) (c : List ℕ) (b j : ℕ) → p ≡ place_key a i → i < identifier_limit → j < identifier_limit → Walk fs ts p c (place_key b j) → LineWalk (text_r_lines text) a i c b j
    walk_unkeyed p a i [] b j q l m e = says_both a i b j l m (sym q ∙ e)
    walk_unkeyed p a i (k ∷ c) b j q l m (h, f, w) =
        let k_low : k < length (text_r_lines text) = omega (arith, many) in
        let at = in_limits_at limits k k_low in
        let same = says_both (r_line_at (text_r_lines text) k).bus (r_line_at (text_r_lines text) k).identifier a i at.from.identified l (sym (from_at (meanings text) k) ∙ f ∙ q) in
        (k_low, same.0, same.1, walk_unkeyed (get_or ts k 0) (r_line_at (text_r_lines text) k).to_bus (r_line_at (text_r_lines text) k).to_identifier c b j (to_at (meanings text) k) at.to.identified m w)

    pub unkeyed : (a i : ℕ) (c : List ℕ) (b j : ℕ) → i < identifier_limit → j < identifier_limit → Chain fs ts (place_key a i) c (place_key b j) → LineChain (text_r_lines text) a i c b j
    unkeyed a i [] b j l m w = elim w [ ]
    unkeyed a i (k ∷ c) b j l m w = walk_unkeyed (place_key a i) a i (k ∷ c) b j refl l m w

    -- the bus and identifier where a chain begins, and where it ends
    pub record Ends (p q : ℕ) (c : List ℕ) : Type 0 where
      pub bus : ℕ
      pub identifier : ℕ
      pub to_bus : ℕ
      pub to_identifier : ℕ
      pub from : p ≡ place_key bus identifier
      pub to : q ≡ place_key to_bus to_identifier
      pub identified : identifier < identifier_limit
      pub to_identified : to_identifier < identifier_limit

    pub ends : (p : ℕ) (c : List ℕ) (q : ℕ) → Chain fs ts p c q → Ends p q c
    ends p [] q w = elim w [ ]
    ends p (k ∷ c) q w =
        let k_low : k < length (text_r_lines text) = omega (arith, many, w.0) in
        let last = walk_last fs ts p k c q w in
        let v_low : last.0 < length (text_r_lines text) = omega (arith, many, last.1) in
        record {
          bus = (r_line_at (text_r_lines text) k).bus;
          identifier = (r_line_at (text_r_lines text) k).identifier;
          to_bus = (r_line_at (text_r_lines text) last.0).to_bus;
          to_identifier = (r_line_at (text_r_lines text) last.0).to_identifier;
          from = sym w.1 ∙ from_at (meanings text) k;
          to = sym last.2 ∙ to_at (meanings text) last.0;
          identified = (in_limits_at limits k k_low).from.identified;
          to_identified = (in_limits_at limits last.0 v_low).to.identified;
        }
