-- The longest chain from a place: along a route it falls. Assumes nothing.
use mathlib.Core.Path.{◌≡◌, refl, sym, ap, ◌∙◌}
use mathlib.Core.Logic.{◌⊎◌, inl, inr, ⊎_elim}
use Prim.Native.Nat.{ℕ, ◌≤◌, ◌<◌, max}
use native.Mathlib.Omega.{arith}
use native.Mathlib.Decide.{dec_le}
use mathlib.Core.List.{List, [], ◌∷◌, Memᴰ}
use lib.ListN.{length, get_or}
use Rattle.chains.specs.Chain.{Walk, LoopFree}
use Rattle.chains.specs.ChainLists.{place_after, chains_from}
use Rattle.chains.proofs.Walks.{chain_walk}
use Rattle.chains.proofs.ChainLists.{listed_chain, chain_listed}

-- the greatest length of some chains
abbrev longest_of : List (List ℕ) → ℕ
longest_of [] = 0
longest_of (c ∷ l) = max (length c) (longest_of l)

of_ge : (l : List (List ℕ)) (c : List ℕ) → Memᴰ c l → length c ≤ longest_of l
of_ge [] c x' = elim x' [ ]
of_ge (d ∷ l) c (Memᴰ.head e) = omega (arith, ap length e)
of_ge (d ∷ l) c (Memᴰ.tail m) = omega (arith, of_ge l c m)

of_is : (l : List (List ℕ)) → (longest_of l ≡ 0) ⊎ ((c : List ℕ) × Memᴰ c l × (length c ≡ longest_of l))
of_is [] = inl refl
of_is (d ∷ l) = go (dec_le (longest_of l) (length d)) (of_is l)
  where
    go : Dec (longest_of l ≤ length d) → (longest_of l ≡ 0) ⊎ ((c : List ℕ) × Memᴰ c l × (length c ≡ longest_of l))
        → (longest_of (d ∷ l) ≡ 0) ⊎ ((c : List ℕ) × Memᴰ c (d ∷ l) × (length c ≡ longest_of (d ∷ l)))
    go (yes h) r = inr (d, Memᴰ.head refl, omega arith)
    go (no n) (inl z) = absurd (omega arith)
    go (no n) (inr (c, m, e)) = inr (c, Memᴰ.tail m, omega arith)

module _ (fs ts : List ℕ) where
  -- how many routes the longest chain from p has
  unfoldable pub longest_from : ℕ → ℕ
  longest_from p = longest_of (chains_from fs ts p)

  -- a longest chain from p
  longest_is : (p : ℕ) → (c : List ℕ) × (q : ℕ) × Walk fs ts p c q × (length c ≡ longest_from p)
  unfolding longest_from
  longest_is p =
      ⊎_elim (λ e. ([], p, refl, sym e))
      (λ r. let w = chain_walk fs ts p r.0 _ (listed_chain fs ts p r.0 r.1) in (w.0 ∷ w.1, place_after ts p r.0, w.3, ap length (sym w.2) ∙ r.2))
      (of_is (chains_from fs ts p))

  module _ (free : LoopFree fs ts) where
    longest_ge : (p : ℕ) (c : List ℕ) (q : ℕ) → Walk fs ts p c q → length c ≤ longest_from p
    unfolding longest_from
    longest_ge p [] q w = omega arith
    longest_ge p (j ∷ c) q w = of_ge (chains_from fs ts p) (j ∷ c) (chain_listed fs ts free p (j ∷ c) q w)

    pub longest_falls : (j p : ℕ) → j < length fs → get_or fs j 0 ≡ p → longest_from (get_or ts j 0) < longest_from p
    longest_falls j p l e =
        let k = longest_is (get_or ts j 0) in
        let h = longest_ge p (j ∷ k.0) k.1 (l, e, k.2) in
        omega (arith, h, k.3)
