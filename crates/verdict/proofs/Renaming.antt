-- The names of places don't matter: a verdict on a table is that on any table whose places are the same under other names. Assumes nothing.
use mathlib.Core.Path.{◌≡◌, sym, ap, ◌∙◌, subst}
use Prim.Native.Nat.{ℕ, ◌<◌}
use native.Mathlib.Omega.{arith}
use mathlib.Core.List.{List, [], ◌∷◌}
use lib.ListN.{length, get_or}
use Rattle.chains.specs.Chain.{Walk, Chain, OnClosed, JoinedTwice, BeginsDoubling, LoopFree, Single}
use Rattle.verdict.specs.Verdicts.{Judged}
use Rattle.verdict.specs.declared.Verdict.{Verdict}
use Rattle.verdict.specs.declared.Verdict.TheVariants as verdict

-- f gives the places of one table those of another
pub record Renames (fs ts gs us : List ℕ) (f : ℕ → ℕ) : Type 0 where
  pub count : length fs ≡ length gs
  pub from : (j : ℕ) → j < length fs → get_or gs j 0 ≡ f (get_or fs j 0)
  pub to : (j : ℕ) → j < length fs → get_or us j 0 ≡ f (get_or ts j 0)

module _ (fs ts gs us : List ℕ) (f : ℕ → ℕ) (r : Renames fs ts gs us f) where
  walk : (p : ℕ) (c : List ℕ) (q : ℕ) → Walk fs ts p c q → Walk gs us (f p) c (f q)
  walk p [] q e = ap f e
  walk p (j ∷ c) q (l, e, w) = (omega (arith, r.count), r.from j l ∙ ap f e, subst (λ (x : ℕ). Walk gs us x c (f q)) (sym (r.to j l)) (walk (get_or ts j 0) c q w))

  chain : (p : ℕ) (c : List ℕ) (q : ℕ) → Chain fs ts p c q → Chain gs us (f p) c (f q)
  chain p [] q w = elim w [ ]
  chain p (j ∷ c) q w = walk p (j ∷ c) q w

  closed_on : (i : ℕ) → OnClosed fs ts i → OnClosed gs us i
  closed_on i (p, c, w, m) = (f p, c, chain p c p w, m)

  doubling_on : (p q : ℕ) (c d : List ℕ) → JoinedTwice fs ts p q c d → JoinedTwice gs us (f p) (f q) c d
  doubling_on p q c d two = record { one = chain p c q two.one; other = chain p d q two.other; different = two.different }

  begins_on : (i : ℕ) → BeginsDoubling fs ts i → BeginsDoubling gs us i
  begins_on i (p, q, c, d, two) = (f p, f q, c, d, doubling_on p q (i ∷ c) d two)

  free_back : LoopFree gs us → LoopFree fs ts
  free_back free p c w = free (f p) c (chain p c p w)

  single_back : Single gs us → Single fs ts
  single_back single p q c d two = single (f p) (f q) c d (doubling_on p q c d two)

-- tables that give each other their places
pub judged_renamed : (fs ts gs us : List ℕ) (f g : ℕ → ℕ) → Renames fs ts gs us f → Renames gs us fs ts g → (v : Verdict) → Judged gs us v → Judged fs ts v
judged_renamed fs ts gs us f g r s (verdict.Loop i) (a, low) = (closed_on gs us fs ts g s i a, λ k l b. low k l (closed_on fs ts gs us f r k b))
judged_renamed fs ts gs us f g r s (verdict.Doubling i) (free, (a, low)) =
    (free_back fs ts gs us f r free, (begins_on gs us fs ts g s i a, λ k l b. low k l (begins_on fs ts gs us f r k b)))
judged_renamed fs ts gs us f g r s verdict.Sound a = record { loop_free = free_back fs ts gs us f r a.loop_free; single = single_back fs ts gs us f r a.single }
