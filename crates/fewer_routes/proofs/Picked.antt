-- A table that has some routes of another: its chains are chains of the other, so it has no closed chain where the other has none.
-- Assumes nothing.
use mathlib.Core.Path.{sym, ◌∙◌, subst}
use Prim.Native.Nat.{ℕ, ◌<◌}
use native.Mathlib.Omega.{arith}
use mathlib.Core.List.{List, [], ◌∷◌, Memᴰ}
use lib.ListN.{length, get_or, length-map}
use Rattle.lists.specs.Lists.{entries_at}
use Rattle.lists.proofs.Lists.{mem_at, map_at}
use Rattle.chains.specs.Chain.{Walk, Chain, LoopFree}

-- some of the numbers below n
abbrev pub Picks : ℕ → List ℕ → Type 0
Picks n numbers = (x : ℕ) → Memᴰ x numbers → x < n

module _ (fs ts numbers : List ℕ) (picks : Picks (length fs) numbers) where
  pub within : (k : ℕ) → k < length (entries_at fs numbers) → k < length numbers
  within k l = omega (arith, length-map numbers (λ (i : ℕ). get_or fs i 0))

  -- a walk along picked routes, along the routes that they are
  walk_old : (p : ℕ) (c : List ℕ) (q : ℕ) → Walk (entries_at fs numbers) (entries_at ts numbers) p c q → Walk fs ts p (entries_at numbers c) q
  walk_old p [] q w = w
  walk_old p (k ∷ c) q (l, f, w) =
      let h = within k l in
      let from = map_at (λ (i : ℕ). get_or fs i 0) numbers 0 0 k h in
      let to = map_at (λ (i : ℕ). get_or ts i 0) numbers 0 0 k h in
      (picks (get_or numbers k 0) (mem_at numbers 0 k h), sym from ∙ f, subst (λ (x : ℕ). Walk fs ts x (entries_at numbers c) q) to (walk_old (get_or (entries_at ts numbers) k 0) c q w))

  pub chain_old : (p : ℕ) (c : List ℕ) (q : ℕ) → Chain (entries_at fs numbers) (entries_at ts numbers) p c q → Chain fs ts p (entries_at numbers c) q
  chain_old p [] q w = absurd w
  chain_old p (k ∷ c) q w = walk_old p (k ∷ c) q w

  pub free_picked : LoopFree fs ts → LoopFree (entries_at fs numbers) (entries_at ts numbers)
  free_picked free p c w = free p (entries_at numbers c) (chain_old p c p w)
