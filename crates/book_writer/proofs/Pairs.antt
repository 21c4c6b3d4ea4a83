-- The lines that pairs of entries make: those of signals and those of routes are such lines; and how long they are together. Assumes nothing.
use mathlib.Core.Path.{◌≡◌, refl, ap, subst, ◌∙◌}
use mathlib.Core.Logic.{◌⊎◌, inl, inr}
use Prim.Native.Nat.{ℕ, ◌+◌, ◌*◌, ◌≤◌, ◌<◌}
use native.Mathlib.Omega.{arith}
use mathlib.Core.List.{List, [], ◌∷◌, map}
use lib.ListN.{length, get_or, drop}
use Rattle.line.specs.declared.Line.{Line}
use Rattle.books.specs.Book.{Placement, Route, numbers}
use Rattle.books.specs.Words.{placement_starts, froms, tos}
use Rattle.books.proofs.Sides.{from}
use Rattle.reading.specs.Written.{signal_line, route_line, lines_text}
use Rattle.reading.proofs.LineLengths.{both_long}
use Rattle.reading.proofs.TextLengths.{signals_few}
use Rattle.book_writer.specs.ShownLines.{signal_line_of, route_line_of, pair_line_limit, pair_lines}

pub signals_paired : (ps : List Placement) → pair_lines signal_line_of (numbers ps) (placement_starts ps) ≡ map signal_line ps
signals_paired [] = refl
signals_paired (p ∷ ps) = ap (◌∷◌ (signal_line p)) (signals_paired ps)

pub routes_paired : (rs : List Route) → pair_lines route_line_of (froms rs) (tos rs) ≡ map route_line rs
routes_paired [] = refl
routes_paired (r ∷ rs) = ap (◌∷◌ (route_line r)) (routes_paired rs)

-- columns that are those of signals or routes
pub lines_of_signals : (ps : List Placement) {ns ss : List ℕ} → ns ≡ numbers ps → ss ≡ placement_starts ps → pair_lines signal_line_of ns ss ≡ map signal_line ps
lines_of_signals ps {ss = ss} e f =
    ap (λ (l : List ℕ). pair_lines signal_line_of l ss) e ∙ ap (pair_lines signal_line_of (numbers ps)) f ∙ signals_paired ps

pub lines_of_routes : (rs : List Route) {fs ts : List ℕ} → fs ≡ froms rs → ts ≡ tos rs → pair_lines route_line_of fs ts ≡ map route_line rs
lines_of_routes rs {ts = ts} e f =
    ap (λ (l : List ℕ). pair_lines route_line_of l ts) e ∙ ap (pair_lines route_line_of (froms rs)) f ∙ routes_paired rs

-- of a kind with no long line, the lines together
pub pairs_few : (line : ℕ → ℕ → Line) → ((x y : ℕ) → length (lines_text (line x y ∷ [])) ≤ pair_line_limit) → (xs ys : List ℕ)
    → length (lines_text (pair_lines line xs ys)) ≤ pair_line_limit * length xs
pairs_few line short [] ys = omega (arith, signals_few [])
pairs_few line short (x ∷ xs) [] = omega (arith, signals_few [])
pairs_few line short (x ∷ xs) (y ∷ ys) = omega (arith, both_long (line x y ∷ []) (pair_lines line xs ys), short x y, pairs_few line short xs ys)

-- two columns in step, from an entry that they have on
pub both_from : (xs ys : List ℕ) (i : ℕ) → length ys ≡ length xs → i < length xs → (drop i xs ≡ get_or xs i 0 ∷ drop (i + 1) xs) × (drop i ys ≡ get_or ys i 0 ∷ drop (i + 1) ys)
both_from xs ys i e h = (from xs i h, from ys i (omega (arith, e, h)))

-- along two columns, what holds of the lines of the pairs that are left holds of the next pair's line before the others, and of no lines
-- where a column ends
module _ (P : List Line → Type 0) (line : ℕ → ℕ → Line) where
  pub pairs_next : {xs ys xs' ys' : List ℕ} {x y : ℕ} → (xs ≡ x ∷ xs') × (ys ≡ y ∷ ys') → P (pair_lines line xs ys) → P (line x y ∷ pair_lines line xs' ys')
  pairs_next {ys = ys} {xs' = xs'} {x = x} e l =
      subst P (ap (λ (t : List ℕ). pair_lines line t ys) e.0 ∙ ap (λ (t : List ℕ). pair_lines line (x ∷ xs') t) e.1) l

  no_pair : (xs : List ℕ) → pair_lines line xs [] ≡ []
  no_pair [] = refl
  no_pair (x ∷ xs) = refl

  pub pairs_done : {xs ys : List ℕ} → (xs ≡ []) ⊎ (ys ≡ []) → P (pair_lines line xs ys) → P []
  pairs_done {ys = ys} (inl e) l = subst (λ (t : List ℕ). P (pair_lines line t ys)) e l
  pairs_done {xs} (inr e) l = subst P (ap (pair_lines line xs) e ∙ no_pair xs) l
