-- The routes of a book as they stand in its words. Assumes nothing.
use mathlib.Core.Path.{◌≡◌, refl, ◌∙◌}
use Prim.Native.Nat.{ℕ, ◌≤◌}
use native.Mathlib.Omega.{arith}
use mathlib.Core.List.{List}
use lib.ListN.{take}
use Rattle.record.specs.Columns.{route_count_of, froms_of, tos_of}
use Rattle.books.specs.Book.{Book}
use Rattle.books.specs.Lines.{route_limit}
use Rattle.books.proofs.RouteColumns.{froms_are, tos_are}
use Rattle.reading.specs.Taken.{froms, tos}
use Rattle.tables.specs.Adding.{Holds}
use Rattle.tables.proofs.Held.{routes_stand, routes_held}
use Rattle.verdict.specs.declared.Verdict.{Verdict}
use Rattle.verdict.specs.Verdicts.{Judged}

module _ {w : List ℕ} {b : Book} (h : Holds w b) {count : ℕ} (c : count ≡ route_count_of w) where
  pub count_few : count ≤ route_limit
  count_few = omega (arith, c, routes_held w b h, h.within.routes)

  -- the first entries of a column, as many as are counted
  first_ones : {l fs p : List ℕ} → fs ≡ l → p ≡ take count fs → p ≡ take (route_count_of w) l
  first_ones e q = q ∙ rw (c, e) refl

  pub on_routes : (v : Verdict) {fs ts p q : List ℕ} → fs ≡ froms_of w → ts ≡ tos_of w → p ≡ take count fs → q ≡ take count ts
      → Judged p q v → Judged (froms b.routes) (tos b.routes) v
  on_routes v e f x y j =
      let s = routes_stand w b h in
      rw (← first_ones e x ∙ froms_are w b.routes h.within.routes s, ← first_ones f y ∙ tos_are w b.routes h.within.routes s) j
