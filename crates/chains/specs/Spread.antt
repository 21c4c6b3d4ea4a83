-- The spread of a place ("The route book": spread). Assumes nothing: these are definitions.
use Rattle.std.specs.Prelude.{◌≡◌, ℕ, zero, suc, cond, List, [], ◌∷◌, ◌++◌, map, length, get_or, eqb}
pub use Rattle.lists.specs.Lists.{Distinct}

-- the routes of the place p in book order, each by its number in the table: 0 where the table's first route starts at p, and then those
-- of the rest, each one further on
abbrev pub routes_from : List ℕ → ℕ → List ℕ
routes_from [] p = []
routes_from (from ∷ froms) p = cond (eqb from p) (0 ∷ map suc (routes_from froms p)) (map suc (routes_from froms p))

-- along some routes: for each, the place it leads to, then what g gives for that place before the next route
abbrev pub sends : List ℕ → (ℕ → List ℕ) → List ℕ → List ℕ
sends tos g [] = []
sends tos g (i ∷ routes) = get_or tos i 0 ∷ (g (get_or tos i 0) ++ sends tos g routes)

module _ (froms tos : List ℕ) where
  -- the rule of the spread: a place's routes in book order; for each, the place it leads to, then that place's own spread before
  -- the next route
  abbrev pub SpreadRule : (ℕ → List ℕ) → Type 0
  SpreadRule g = (p : ℕ) → g p ≡ sends tos g (routes_from froms p)

  -- the spread of p along chains of at most d routes
  abbrev pub spread_up_to : ℕ → ℕ → List ℕ
  spread_up_to zero p = []
  spread_up_to (suc d) p = sends tos (spread_up_to d) (routes_from froms p)

  -- the spread of p: without closed chains no chain has more routes than the table, and this is the one list for each place that
  -- obeys the rule (proofs/Spreads.antt: spread_rule, rule_spread)
  unfoldable pub spread_of : ℕ → List ℕ
  spread_of p = spread_up_to (length froms) p
