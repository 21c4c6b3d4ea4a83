-- Every chain from a place, as one list in the order of the spread. Assumes nothing: these are definitions.
use Rattle.std.specs.Prelude.{ℕ, zero, suc, List, [], ◌∷◌, ◌++◌, map, length, get_or}
use Rattle.chains.specs.Spread.{routes_from}

-- the place that the routes c lead to from the place p, one after the other
abbrev pub place_after : List ℕ → ℕ → List ℕ → ℕ
place_after tos p [] = p
place_after tos p (i ∷ c) = place_after tos (get_or tos i 0) c

-- the chains that begin with one of some routes: for each, that route alone, then that route before each chain that g gives for the
-- place it leads to, before the next route
abbrev pub chains_beginning : List ℕ → (ℕ → List (List ℕ)) → List ℕ → List (List ℕ)
chains_beginning tos g [] = []
chains_beginning tos g (i ∷ routes) = (i ∷ []) ∷ (map (λ (c : List ℕ). i ∷ c) (g (get_or tos i 0)) ++ chains_beginning tos g routes)

module _ (froms tos : List ℕ) where
  -- every chain from p of at most d routes
  abbrev pub chains_up_to : ℕ → ℕ → List (List ℕ)
  chains_up_to zero p = []
  chains_up_to (suc d) p = chains_beginning tos (chains_up_to d) (routes_from froms p)

  -- every chain from p: without closed chains none has more routes than the table (proofs/ChainLists.antt: chain_listed)
  unfoldable pub chains_from : ℕ → List (List ℕ)
  chains_from p = chains_up_to (length froms) p
