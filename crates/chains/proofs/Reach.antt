-- Warshall's rule over the routes, and that it tells which places a route leads on to. Assumes nothing.
use mathlib.Core.Path.{◌≡◌, refl, sym, ap, ◌∙◌, subst}
use mathlib.Core.Logic.{◌⊎◌, inl, inr, ⊎_elim}
use mathlib.Core.Bool.{Bool, true, ◌||◌, ◌&&◌, and-eq-true_iff}
use Prim.Native.Nat.{ℕ, zero, suc, ◌≤◌, ◌<◌}
use native.Mathlib.Nat.{eq-or-lt_of_le, le_of_suc-le-suc}
use native.Mathlib.Omega.{arith}
use mathlib.Core.List.{List, [], ◌∷◌, ◌++◌}
use lib.ListN.{length, get_or}
use lib.Dec.{eqb}
use borrow.Author.Tests.{eqb-true, eq-eqb}
use Rattle.chains.specs.Chain.{Walk, LeadsOn}
use Rattle.chains.specs.Tells.{Tells}
use Rattle.chains.proofs.Bools.{or_cases, or_left, or_right, test_tells}
use Rattle.chains.proofs.Walks.{walk_append}

-- all the routes of c are below k
abbrev Below : ℕ → List ℕ → Type 0
Below k [] = Unit {0}
Below k (i ∷ c) = (i < k) × Below k c

below_suc : (k : ℕ) (c : List ℕ) → Below k c → Below (suc k) c
below_suc k [] b = tt
below_suc k (i ∷ c) (l, b) = (omega arith, below_suc k c b)

below_append : (k : ℕ) (c d : List ℕ) → Below k c → Below k d → Below k (c ++ d)
below_append k [] d b e = e
below_append k (i ∷ c) d (l, b) e = (l, below_append k c d b e)

module _ (fs ts : List ℕ) where
  -- route i, and then routes below k, lead to the place x
  unfoldable pub reach : ℕ → ℕ → ℕ → Bool
  reach zero i x = eqb (get_or ts i 0) x
  reach (suc k) i x = reach k i x || (reach k i (get_or fs k 0) && reach k k x)

  -- the same as walks
  abbrev Onward : ℕ → ℕ → ℕ → Type 0
  Onward k i x = (c : List ℕ) × Walk fs ts (get_or ts i 0) c x × Below k c

  reach_walk : (k i x : ℕ) → k ≤ length fs → reach k i x ≡ true → Onward k i x
  unfolding reach
  reach_walk zero i x n e = ([], eqb-true _ _ e, tt)
  reach_walk (suc k) i x n e =
      ⊎_elim (λ h. up (reach_walk k i x (omega arith) h))
      (λ h. let g = (and-eq-true_iff (reach k i (get_or fs k 0)) (reach k k x)).0 h in
      via (reach_walk k i (get_or fs k 0) (omega arith) g.0) (reach_walk k k x (omega arith) g.1))
      (or_cases (reach k i x) (reach k i (get_or fs k 0) && reach k k x) e)
    where
      up : Onward k i x → Onward (suc k) i x
      up (c, w, b) = (c, w, below_suc k c b)

      via : Onward k i (get_or fs k 0) → Onward k k x → Onward (suc k) i x
      via (c, w, b) (d, v, a) = (
        c ++ (k ∷ d),
        walk_append fs ts _ c (get_or fs k 0) _ (k ∷ d) w (omega arith, refl, v),
        below_append (suc k) c (k ∷ d) (below_suc k c b) (omega arith, below_suc k d a),
      )

  -- a walk with routes up to k, cut at the first k and at the last
  cut : (k i x : ℕ) (c : List ℕ) → Walk fs ts (get_or ts i 0) c x → Below (suc k) c → Onward k i x ⊎ (Onward k i (get_or fs k 0) × Onward k k x)
  cut k i x [] e b = inl ([], e, tt)
  cut k i x (y ∷ c) (n, f, v) (l, b) = go (eq-or-lt_of_le l) (cut k y x c v b)
    where
      to_k : suc y ≡ suc k → Onward k i (get_or fs k 0)
      to_k e = let ek : y ≡ k = omega arith in ([], sym f ∙ ap (λ (z : ℕ). get_or fs z 0) ek, tt)

      go : (suc y ≡ suc k) ⊎ (suc y < suc k) → Onward k y x ⊎ (Onward k y (get_or fs k 0) × Onward k k x) → Onward k i x ⊎ (Onward k i (get_or fs k 0) × Onward k k x)
      go (inl e) (inl r) = let ek : y ≡ k = omega arith in inr (to_k e, subst (λ (z : ℕ). Onward k z x) ek r)
      go (inl e) (inr r) = inr (to_k e, r.1)
      go (inr h) (inl (d, w, a)) = inl (y ∷ d, (n, f, w), (le_of_suc-le-suc h, a))
      go (inr h) (inr ((d, w, a), r)) = inr ((y ∷ d, (n, f, w), (le_of_suc-le-suc h, a)), r)

  walk_reach : (k i x : ℕ) → Onward k i x → reach k i x ≡ true
  unfolding reach
  walk_reach zero i x ([], w, b) = eq-eqb _ _ w
  walk_reach zero i x (y ∷ c, w, b) = let z : y < 0 = b.0 in absurd (omega arith)
  walk_reach (suc k) i x (c, w, b) =
      ⊎_elim (λ h. or_left (reach k i x) (reach k i (get_or fs k 0) && reach k k x) (walk_reach k i x h))
      (λ h. or_right (reach k i x) (reach k i (get_or fs k 0) && reach k k x) ((and-eq-true_iff (reach k i (get_or fs k 0)) (reach k k x)).1 (walk_reach k i (get_or fs k 0) h.0, walk_reach k k x h.1)))
      (cut k i x c w b)

  walk_below : (p : ℕ) (c : List ℕ) (q : ℕ) → Walk fs ts p c q → Below (length fs) c
  walk_below p [] q w = tt
  walk_below p (i ∷ c) q (l, f, w) = (l, walk_below (get_or ts i 0) c q w)

  -- with every route between, it is where route i leads on to
  pub reach_leads : (i x : ℕ) → reach (length fs) i x ≡ true → LeadsOn fs ts i x
  reach_leads i x e = let r = reach_walk (length fs) i x (omega arith) e in (r.0, r.1)

  pub leads_reach : (i x : ℕ) → LeadsOn fs ts i x → reach (length fs) i x ≡ true
  leads_reach i x (c, w) = walk_reach (length fs) i x (c, w, walk_below (get_or ts i 0) c x w)

  pub reach_tells : (i x : ℕ) → Tells (LeadsOn fs ts i x) (reach (length fs) i x)
  reach_tells i x = test_tells (reach (length fs) i x) (reach_leads i x) (leads_reach i x)
