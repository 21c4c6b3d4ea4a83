-- A printout at its place, or that it does not fit. Assumes nothing.
use mathlib.Core.Path.{◌≡◌, ap, ◌∙◌}
use mathlib.Core.List.{List}
use Prim.Native.Nat.{ℕ, ◌+◌, ◌-◌, ◌≤◌, ◌<◌}
use native.Mathlib.Omega.{arith}
use lib.ListN.{length, take, drop}
use lib.Seq.{sets-eq, take_at}
use borrow.Author.Tests.{le-leb, lt-leb}
use Rattle.printing.specs.Put.{Put, PutWithin}
use Rattle.std.specs.Prelude.{Option, Some, None}
use Rattle.listing.specs.Working.{fitted}

-- a text that stands at the front of a list is its first part
front : {old : List ℕ} {text new : List ℕ} {n : ℕ} → Put old 0 text new n → length text ≤ length old → take n new ≡ text
front {old} {text} {new} {n} p h =
    ap (take n) (p.now_there ∙ sets-eq text old 0 (omega arith)) ∙ take_at text (drop (0 + length text) old) n (omega (arith, p.now_at))

module _ (out : List ℕ) (at : ℕ) (text : List ℕ) where
  pub fits : length text ≤ length out - at → {new : List ℕ} {next : ℕ} → Put out at text new next → ◌≡◌ {A = Option ℕ × List ℕ} (Some next, new) (fitted out at text)
  unfolding fitted
  fits h {new} {next} p = rw (le-leb (length text) (length out - at) h, ← p.now_at, ← p.now_there)

  pub too_long : length out - at < length text → ◌≡◌ {A = Option ℕ × List ℕ} (None, out) (fitted out at text)
  unfolding fitted
  too_long h = rw (lt-leb (length text) (length out - at) h)

-- another text that is the same
pub fitted_as : (out : List ℕ) (at : ℕ) {a b : List ℕ} {r : Option ℕ × List ℕ} → a ≡ b → r ≡ fitted out at a → r ≡ fitted out at b
fitted_as out at e p = p ∙ ap (fitted out at) e

-- a text that was written aside first, at the front of zeros that are enough for it
module _ {zeros text aside : List ℕ} {most n : ℕ} (p : PutWithin zeros 0 most text aside n) (h : most ≤ length zeros) where
  pub aside_is : take n aside ≡ text
  aside_is = front p.put (omega (arith, p.short))

  -- as long as it says
  pub aside_long : n ≡ length (take n aside)
  aside_long = omega (arith, ap length aside_is, p.put.now_at)
