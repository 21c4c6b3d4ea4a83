-- A stand-in that demand 3 throws out: a spread that follows the first route of a place and drops the rest. Assumes nothing.
use mathlib.Core.Path.{◌≡◌, refl, sym, subst}
use mathlib.Core.Logic.{⊎_elim}
use Prim.Native.Nat.{ℕ, ◌≤◌}
use native.Mathlib.Omega.{arith}
use mathlib.Core.List.Memᴰ
use mathlib.Core.List.{List, [], ◌∷◌}
use lib.ListN.{length, take}
use Rattle.record.specs.Place.{place_key}
use Rattle.numerals.specs.Numeral.{digit_value, numeral_from, identifier, needless_zero, decimal}
use Rattle.parts.specs.Parts.{lines, lines_of, split, on_first}
use Rattle.line.specs.Meaning.{meaning_of, line_meaning, of_fields, of_kind, of_route}
use Rattle.books.specs.Words.{words_of}
use Rattle.reading.specs.Reading.{meanings}
use Rattle.routes.specs.Answers.{IsPlace, SpreadAnswer}
use Rattle.demands.specs.RLines.{RLine, r_lines_in, text_r_lines, ListsPlaces}
use Rattle.demands.specs.Examples.{fork_text, fork_book}
use Rattle.demands.proofs.Witnesses.{ok_0_0_2}
use Rattle.demands.proofs.Spreading.{spread_of_taken, routes_enough}

-- the R lines of the text: from 18FF21F3 on bus 0 to the same on bus 1, and to 18FF21D0 on bus 2
abbrev fork_lines : List RLine
fork_lines =
    record { bus = 0; identifier = 419373555; to_bus = 1; to_identifier = 419373555 }
    ∷ record { bus = 0; identifier = 419373555; to_bus = 2; to_identifier = 419373520 } ∷ []

lines_are : text_r_lines fork_text ≡ fork_lines
unfolding r_lines_in meanings lines lines_of split on_first meaning_of line_meaning of_fields of_kind of_route identifier decimal numeral_from digit_value needless_zero
lines_are = refl

-- with room for two, no call of the spread by that book answers with the first of the two places alone
pub first_route_only : (room : List ℕ) → 2 ≤ length room → {why n : ℕ} {after : List ℕ}
    → SpreadAnswer (words_of fork_book) 0 419373555 room why n after → take n after ≡ place_key 1 419373555 ∷ [] → ⊥
first_route_only room h {why} {n} {after} x e =
    let p : IsPlace 0 419373555 = record { on_bus = omega arith; identified = omega arith } in
    let enough = routes_enough fork_text ok_0_0_2 0 419373555 p room (subst (λ (ls : List RLine). length ls ≤ length room) (sym lines_are) h) in
    let s = spread_of_taken fork_text ok_0_0_2 0 419373555 p room x enough in
    let l : ListsPlaces fork_lines 0 419373555 (place_key 1 419373555 ∷ []) = subst (λ (ls : List RLine). ListsPlaces ls 0 419373555 (place_key 1 419373555 ∷ [])) lines_are (subst (ListsPlaces (text_r_lines fork_text) 0 419373555) e s.lists) in
    ⊎_elim (λ (e : place_key 2 419373520 ≡ place_key 1 419373555). omega arith) (λ m. Memᴰ.not-nil m)
    (Memᴰ.cases_cons (l.every 2 419373520 (1 ∷ []) (omega arith, refl, refl, (refl, refl))))
