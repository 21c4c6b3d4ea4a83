-- Walks put together and taken apart. Assumes nothing.
use mathlib.Core.Path.{◌≡◌, refl, sym, ap, ◌∙◌, subst}
use Prim.Native.Nat.{ℕ, ◌<◌}
use native.Mathlib.Omega.{arith}
use mathlib.Core.List.Memᴰ
use mathlib.Core.List.{List, [], ◌∷◌, ◌++◌, Memᴰ}
use lib.ListN.{length, get_or}
use Rattle.lists.proofs.Lists.{mem_at}
use Rattle.chains.specs.Chain.{Walk, Chain}

module _ (fs ts : List ℕ) where
  pub walk_append : (p : ℕ) (c : List ℕ) (m q : ℕ) (d : List ℕ) → Walk fs ts p c m → Walk fs ts m d q → Walk fs ts p (c ++ d) q
  walk_append p [] m q d e w = subst (λ (x : ℕ). Walk fs ts x d q) (sym e) w
  walk_append p (i ∷ c) m q d (a, b, v) w = (a, b, walk_append (get_or ts i 0) c m q d v w)

  -- a walk through route i: what comes before i and what comes after
  abbrev pub Through : ℕ → ℕ → ℕ → Type 0
  Through p i q = (a b : List ℕ) × (i < length fs) × Walk fs ts p a (get_or fs i 0) × Walk fs ts (get_or ts i 0) b q

  pub through : (p i : ℕ) (c : List ℕ) (q : ℕ) → Memᴰ i c → Walk fs ts p c q → Through p i q
  through p i [] q x'' _ = elim x'' [ ]
  through p i (x ∷ c) q (Memᴰ.head e) (l, f, w) =
      ([], c, subst (λ (y : ℕ). y < length fs) (sym e) l, sym f ∙ ap (λ (y : ℕ). get_or fs y 0) (sym e), subst (λ (y : ℕ). Walk fs ts (get_or ts y 0) c q) (sym e) w)
  through p i (x ∷ c) q (Memᴰ.tail m) (l, f, w) = more (through (get_or ts x 0) i c q m w)
    where
      more : Through (get_or ts x 0) i q → Through p i q
      more (a, b, lt, u, v) = (x ∷ a, b, lt, (l, f, u), v)

  -- a chain has a first route
  pub chain_walk : (p : ℕ) (c : List ℕ) (q : ℕ) → Chain fs ts p c q → (j : ℕ) × (d : List ℕ) × (c ≡ j ∷ d) × Walk fs ts p (j ∷ d) q
  chain_walk p [] q w = absurd w
  chain_walk p (j ∷ d) q w = (j, d, refl, w)

  -- a walk that begins with route j ends where some route ends
  pub walk_last : (p j : ℕ) (c : List ℕ) (q : ℕ) → Walk fs ts p (j ∷ c) q → (v : ℕ) × (v < length fs) × (get_or ts v 0 ≡ q)
  walk_last p j [] q (l, f, w) = (j, l, w)
  walk_last p j (x ∷ c) q (l, f, w) = walk_last (get_or ts j 0) x c q w

  -- so it ends at a place that routes lead to
  pub walk_end : length fs ≡ length ts → (p j : ℕ) (c : List ℕ) (q : ℕ) → Walk fs ts p (j ∷ c) q → Memᴰ q ts
  walk_end e p j c q w = let r = walk_last p j c q w in Memᴰ.cast (sym r.2) (mem_at ts 0 r.0 (omega (arith, r.1)))
