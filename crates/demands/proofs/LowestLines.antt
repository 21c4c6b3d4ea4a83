-- The line of refusals 10 and 11: the lowest R line on a closed chain; the lowest R line that begins one of two different chains that
-- join the same two places. Assumes nothing.
use mathlib.Core.Path.{◌≡◌, refl, ap, subst}
use mathlib.Core.Bool.{Bool, true, false}
use Prim.Native.Nat.{ℕ, ◌≤◌, ◌<◌}
use native.Mathlib.Omega.{arith}
use mathlib.Core.List.{List}
use borrow.Author.Tests.{ltb-true, ltb-false}
use lib.Dec.{ltb}
use lib.ListN.{length, get_or, length-map}
use Rattle.chains.specs.Chain.{OnClosed, BeginsDoubling}
use Rattle.chains.proofs.Loops.{closed_back}
use Rattle.answers.specs.Numbers.{Said, refused}
use Rattle.books.specs.Book.{Book, Route}
use Rattle.reading.specs.Reading.{passed, meanings, lines_read}
use Rattle.reading.specs.Taken.{froms, tos}
use Rattle.reading.proofs.Counts.{text_counted}
use Rattle.book.specs.Answered.{Answered, too_long, bad_line, closed_chain, two_chains, taken_with}
use Rattle.demands.specs.Text.{text_routes, line_of, LowestLine}
use Rattle.demands.specs.RLines.{text_r_lines, OnLoop, BeginsPair}
use Rattle.demands.proofs.LineNumbers.{rising, kept, routes_of_text}
use Rattle.demands.proofs.Keys.{text_in_limits}
use Rattle.demands.proofs.ByLines.{loop_keyed, loop_unkeyed, pair_keyed, pair_unkeyed}
use Rattle.demands.proofs.LineRefusals.{line_low, apart, not_taken}

-- the lowest route has the lowest line
module _ (text : List ℕ) (b : Book) (at : List ℕ) (e : lines_read text ≡ passed b at) (P : List ℕ → List ℕ → ℕ → Type 0) (i : ℕ)
    (route : (fs ts : List ℕ) (k : ℕ) → P fs ts k → k < length fs) (holds : P (froms b.routes) (tos b.routes) i)
    (lowest : (k : ℕ) → k < i → P (froms b.routes) (tos b.routes) k → ⊥) where
  line_is : get_or at i 0 ≡ line_of text i
  line_is = ap (λ (ns : List ℕ). get_or ns i 0) (kept text e)

  not_lower : (k : ℕ) → P (froms b.routes) (tos b.routes) k → get_or at i 0 ≤ line_of text k
  not_lower k h = go (ltb k i) (ltb i k) refl refl
    where
      there : k < length b.routes
      there = omega (arith, route (froms b.routes) (tos b.routes) k h, length-map b.routes (λ (r : Route). r.from))

      go : (below above : Bool) → ltb k i ≡ below → ltb i k ≡ above → get_or at i 0 ≤ line_of text k
      go true above p q = absurd (lowest k (ltb-true k i p) h)
      go false true p q = omega (arith, line_is, rising 1 (meanings text) i k (ltb-true i k q) (omega (arith, there, (text_counted text e).routes)))
      go false false p q =
          let same : i ≡ k = omega (arith, ltb-false k i p, ltb-false i k q) in
          omega (arith, line_is, ap (line_of text) same)

  lowest_line : LowestLine text (P (froms (text_routes text)) (tos (text_routes text))) (get_or at i 0)
  lowest_line =
      subst (λ (rs : List Route). LowestLine text (P (froms rs) (tos rs)) (get_or at i 0)) (routes_of_text text e)
      (record { route = i; holds = holds; line = line_is; lowest = not_lower })

-- the same of what holds of the same R lines
same_lowest : {text : List ℕ} {P Q : ℕ → Type 0} {n : ℕ} → ((k : ℕ) → P k → Q k) → ((k : ℕ) → Q k → P k) → LowestLine text P n → LowestLine text Q n
same_lowest f g l = record { route = l.route; holds = f l.route l.holds; line = l.line; lowest = λ k h. l.lowest k (g k h) }

begins_route : (fs ts : List ℕ) (k : ℕ) → BeginsDoubling fs ts k → k < length fs
begins_route fs ts k (p, q, c, d, h) = h.one.0

module _ (text : List ℕ) (n : ℕ) (w : List ℕ) where
  pub loop_line : Answered text (refused 10 n) w → LowestLine text (OnLoop (text_r_lines text)) n
  loop_line a = from (refused 10 n) w refl a
    where
      from : (s : Said) (v : List ℕ) → s ≡ refused 10 n → Answered text s v → LowestLine text (OnLoop (text_r_lines text)) n
      from s v e (too_long h) = apart (λ z. omega arith) e
      from s v e (bad_line {why = why} {n = m} h r) = apart (λ z. omega (arith, (line_low text why m r).most)) e
      from s v e (closed_chain {b = b} {at = at} {i = i} p l) =
          let same : get_or at i 0 ≡ n = cc in
          subst (LowestLine text (OnLoop (text_r_lines text))) same
          (same_lowest (loop_unkeyed text (text_in_limits text p.read)) (loop_keyed text) (lowest_line text b at p.read OnClosed i (λ fs ts k h. (closed_back fs ts k h).0) l.0 l.1))
      from s v e (two_chains p free l) = apart (λ z. omega arith) e
      from s v e (taken_with t) = not_taken e

  pub doubling_line : Answered text (refused 11 n) w → LowestLine text (BeginsPair (text_r_lines text)) n
  doubling_line a = from (refused 11 n) w refl a
    where
      from : (s : Said) (v : List ℕ) → s ≡ refused 11 n → Answered text s v → LowestLine text (BeginsPair (text_r_lines text)) n
      from s v e (too_long h) = apart (λ z. omega arith) e
      from s v e (bad_line {why = why} {n = m} h r) = apart (λ z. omega (arith, (line_low text why m r).most)) e
      from s v e (closed_chain p l) = apart (λ z. omega arith) e
      from s v e (two_chains {b = b} {at = at} {i = i} p free l) =
          let same : get_or at i 0 ≡ n = cc in
          subst (LowestLine text (BeginsPair (text_r_lines text))) same
          (same_lowest (pair_unkeyed text (text_in_limits text p.read)) (pair_keyed text) (lowest_line text b at p.read BeginsDoubling i begins_route l.0 l.1))
      from s v e (taken_with t) = not_taken e
