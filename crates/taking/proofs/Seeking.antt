-- The loop that looks for a route's line: the answer for the rest is the answer for the whole. Assumes nothing.
use mathlib.Core.Path.{◌≡◌, refl, sym, ◌∙◌}
use Prim.Native.Nat.{ℕ, zero, suc, ◌+◌, ◌-◌, ◌≤◌, ◌<◌}
use native.Mathlib.Numerals.{add-one}
use native.Mathlib.Omega.{arith}
use mathlib.Core.Bool.{Bool, true, false}
use mathlib.Core.List.{List, ◌∷◌}
use lib.ListN.{length, drop, get_or}
use Rattle.line.specs.declared.Line.{Line}
use Rattle.line.specs.declared.Line.TheVariants as line
use Rattle.line.specs.declared.ReadLine.{ReadLine}
use Rattle.line.specs.LineAt.{line_at}
use Rattle.reading.specs.Reading.{meanings}
use Rattle.reading.specs.Taken.{r_lines_from}
use Rattle.taking.specs.Taking.{is_route_spec}
use Rattle.taking.proofs.Going.{read, says, no_more}

on_route : (n : ℕ) (l : Line) (ls : List Line) → is_route_spec l ≡ true → r_lines_from n (l ∷ ls) ≡ n ∷ r_lines_from (suc n) ls
unfolding r_lines_from
on_route n (line.Route a i b j) ls e = refl
on_route n (line.Message i) ls e = absurd (let z : ◌≡◌ {A = ℕ} 0 1 = cc in omega arith)
on_route n (line.Signal m s) ls e = absurd (let z : ◌≡◌ {A = ℕ} 0 1 = cc in omega arith)
on_route n line.IllFormed ls e = absurd (let z : ◌≡◌ {A = ℕ} 0 1 = cc in omega arith)

off_route : (n : ℕ) (l : Line) (ls : List Line) → is_route_spec l ≡ false → r_lines_from n (l ∷ ls) ≡ r_lines_from (suc n) ls
unfolding r_lines_from
off_route n (line.Route a i b j) ls e = absurd (let z : ◌≡◌ {A = ℕ} 0 1 = cc in omega arith)
off_route n (line.Message i) ls e = refl
off_route n (line.Signal m s) ls e = refl
off_route n line.IllFormed ls e = refl

-- `at` bytes of the text are read, line n is next, and so many routes are left before the one that is looked for
pub record Seeking (text : List ℕ) (route at n left : ℕ) : Type 0 where
  pub answer : get_or (r_lines_from n (meanings (drop at text))) left 0 ≡ get_or (r_lines_from 1 (meanings text)) route 0
  pub within : at ≤ length text
  pub numbered : n ≤ at + 1

pub start : (text : List ℕ) (route : ℕ) → Seeking text route 0 1 route
start text route = record { answer = refl; within = omega arith; numbered = omega arith }

later : (n : ℕ) (ls : List ℕ) (left : ℕ) → (left ≡ 0 → ⊥) → get_or (n ∷ ls) left 0 ≡ get_or ls (left - 1) 0
later n ls zero h = absurd (h refl)
later n ls (suc k) h = let z : suc k - 1 ≡ k = omega arith in rw z

module _ {text : List ℕ} {route at n left : ℕ} (g : Seeking text route at n left) where
  pub not_there : length text ≤ at → 0 ≡ get_or (r_lines_from 1 (meanings text)) route 0
  unfolding r_lines_from
  not_there h = rw (no_more text at h) at g.answer

  module _ (h : at < length text) (r : ReadLine) (e : r ≡ line_at text at) where
    here : get_or (r_lines_from n (r.line ∷ meanings (drop r.next text))) left 0 ≡ get_or (r_lines_from 1 (meanings text)) route 0
    here = rw (says text at h r e) at g.answer

    on : {left' : ℕ} → get_or (r_lines_from (suc n) (meanings (drop r.next text))) left' 0 ≡ get_or (r_lines_from 1 (meanings text)) route 0
        → Seeking text route r.next (n + 1) left'
    on a = record { answer = rw (add-one n) a; within = (read text at h r e).within; numbered = omega (arith, g.numbered, (read text at h r e).further) }

    module _ (b : Bool) (q : b ≡ is_route_spec r.line) where
      module _ (y : b ≡ true) where
        there : get_or (n ∷ r_lines_from (suc n) (meanings (drop r.next text))) left 0 ≡ get_or (r_lines_from 1 (meanings text)) route 0
        there = rw (on_route n r.line (meanings (drop r.next text)) (sym q ∙ y)) at here

        pub found : left ≡ 0 → n ≡ get_or (r_lines_from 1 (meanings text)) route 0
        found z = rw z at there

        pub one_less : (left ≡ 0 → ⊥) → Seeking text route r.next (n + 1) (left - 1)
        one_less z = on (rw (later n (r_lines_from (suc n) (meanings (drop r.next text))) left z) at there)

      pub as_many : b ≡ false → Seeking text route r.next (n + 1) left
      as_many y = on (rw (off_route n r.line (meanings (drop r.next text)) (sym q ∙ y)) at here)
