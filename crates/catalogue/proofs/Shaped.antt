-- Numbers and shapes together are the catalogue: one equation of lists, which is computed. So a signal's row is that of its shape, but
-- for the number. Assumes nothing.
use mathlib.Core.Path.{◌≡◌, refl, ap, ◌∙◌}
use mathlib.Core.Bool.{Bool, true, false, ◌&&◌, cond}
use mathlib.Core.List.{List, [], ◌∷◌, map}
use mathlib.Core.Option.{Option, none, some}
use Prim.Native.Nat.{ℕ}
use lib.Dec.{T, eqb}
use lib.Ieee.Fits.{and_l, and_r}
use Rattle.rows.specs.declared.Row.{Row}
use Rattle.rows.specs.Rows.{rows, blank}
use Rattle.catalogue.specs.Find.{row_in, row_of}
use Rattle.catalogue.specs.Signals.{signals}
use Rattle.catalogue.specs.Shapes.{shape_in, shape_of, row_shaped, numbered, forget}

abbrev or_blank : Option Row → Row
or_blank none = blank
or_blank (some r) = r

abbrev signal : ℕ × ℕ → Row
signal p = numbered p.0 (or_blank (row_shaped p.1))

all : rows ≡ map signal signals
unfolding rows
all = refl

-- ---- every signal has a shape

abbrev is_there : Option Row → Bool
is_there none = false
is_there (some r) = true

abbrev all_there : List (ℕ × ℕ) → Bool
all_there [] = true
all_there (p ∷ ps) = is_there (row_shaped p.1) && all_there ps

-- a row that is there, its number forgotten
is_row : (o : Option Row) → T (is_there o) → some (numbered 0 (or_blank o)) ≡ forget o
is_row none t = absurd t
is_row (some r) t = refl

in_signals : (n : ℕ) (ps : List (ℕ × ℕ)) → T (all_there ps) → forget (row_in n (map signal ps)) ≡ forget (row_shaped (shape_in n ps))
in_signals n [] t = refl
in_signals n (p ∷ ps) t =
    first (eqb p.0 n) (is_row (row_shaped p.1) (and_l (is_there (row_shaped p.1)) (all_there ps) t))
    (in_signals n ps (and_r (is_there (row_shaped p.1)) (all_there ps) t))
  where
    first : (b : Bool) → forget (some (signal p)) ≡ forget (row_shaped p.1) → forget (row_in n (map signal ps)) ≡ forget (row_shaped (shape_in n ps)) → forget (cond b (some (signal p)) (row_in n (map signal ps))) ≡ forget (row_shaped (cond b p.1 (shape_in n ps)))
    first true here there = here
    first false here there = there

-- a signal's row is the row of its shape, but for the number
pub by_shape : (n : ℕ) → forget (row_of n) ≡ forget (row_shaped (shape_of n))
unfolding row_of
by_shape n = ap (λ (rs : List Row). forget (row_in n rs)) all ∙ in_signals n signals tt
