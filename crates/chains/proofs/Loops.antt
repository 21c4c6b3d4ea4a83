-- Closed chains, and what a table without one has. Assumes nothing.
use mathlib.Core.Path.{◌≡◌, refl, sym, ◌∙◌, subst}
use mathlib.Core.Bool.{Bool, true, false, true≢false}
use Prim.Native.Nat.{ℕ, ◌≤◌, ◌<◌}
use mathlib.Core.List.{List, [], ◌∷◌, ◌++◌, Memᴰ}
use lib.ListN.{length, get_or}
use Rattle.lists.specs.Lists.{Distinct}
use Rattle.lists.proofs.Pigeons.{below_length}
use Rattle.chains.specs.Chain.{Walk, OnClosed, LoopFree}
use Rattle.chains.proofs.Walks.{walk_append, Through, through, chain_walk}
use Rattle.chains.proofs.Reach.{reach, reach_leads, leads_reach}

module _ (fs ts : List ℕ) where
  -- route i comes back to where it started
  abbrev pub comes_back_spec : ℕ → Bool
  comes_back_spec i = reach fs ts (length fs) i (get_or fs i 0)

  -- a route lies on a closed chain just where it comes back
  pub closed_back : (i : ℕ) → OnClosed fs ts i → (i < length fs) × (comes_back_spec i ≡ true)
  closed_back i (p, c, w, m) = let r = chain_walk fs ts p c p w in turn (through fs ts p i (r.0 ∷ r.1) p (subst (λ (d : List ℕ). Memᴰ i d) r.2 m) r.3)
    where
      turn : Through fs ts p i p → (i < length fs) × (comes_back_spec i ≡ true)
      turn (a, b, lt, u, v) = (lt, leads_reach fs ts i (get_or fs i 0) (b ++ a, walk_append fs ts _ b p _ a v u))

  pub back_closed : (i : ℕ) → i < length fs → comes_back_spec i ≡ true → OnClosed fs ts i
  back_closed i l e = let s = reach_leads fs ts i (get_or fs i 0) e in (get_or fs i 0, i ∷ s.0, (l, refl, s.1), Memᴰ.head refl)

  pub loop_free : ((i : ℕ) → i < length fs → comes_back_spec i ≡ false) → LoopFree fs ts
  loop_free h p c w = let s = chain_walk fs ts p c p w in
      let r = closed_back s.0 (p, s.0 ∷ s.1, s.3, Memᴰ.head refl) in true≢false (sym r.1 ∙ h s.0 r.0)

  -- without closed chains no chain has a route twice, so that it has at most as many routes as the table
  module _ (free : LoopFree fs ts) where
    distinct : (p : ℕ) (c : List ℕ) (q : ℕ) → Walk fs ts p c q → Distinct c
    distinct p [] q w = tt
    distinct p (i ∷ c) q (l, f, w) = (
      λ m. let t = through fs ts (get_or ts i 0) i c q m w in free (get_or fs i 0) (i ∷ t.0) (l, refl, t.3),
      distinct (get_or ts i 0) c q w,
    )

    pub short : (p : ℕ) (c : List ℕ) (q : ℕ) → Walk fs ts p c q → length c ≤ length fs
    short p c q w = below_length (length fs) c (distinct p c q w) (λ x m. (through fs ts p x c q m w).2)
