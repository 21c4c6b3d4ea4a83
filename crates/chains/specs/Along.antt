-- The spread once more, by counting through the table's routes as code does: the working side of the spread, which no promise names.
-- `chains: Along sends_along_law, spread_within_law` say that it is the spread by the routes of a place. Assumes nothing: these are definitions.
use Rattle.std.specs.Prelude.{ℕ, zero, suc, cond, List, [], ◌∷◌, ◌++◌, length, get_or, eqb}

module _ (froms tos : List ℕ) where
  -- what p sends along the m routes from route i on, in book order: for each that starts at p the place it leads to, then what g
  -- gives for that place
  abbrev pub sends_along : (ℕ → List ℕ) → ℕ → ℕ → ℕ → List ℕ
  sends_along g p i zero = []
  sends_along g p i (suc m) =
      cond (eqb (get_or froms i 0) p) (get_or tos i 0 ∷ (g (get_or tos i 0) ++ sends_along g p (suc i) m)) (sends_along g p (suc i) m)

  -- the spread of p along chains of at most d routes
  abbrev pub spread_within : ℕ → ℕ → List ℕ
  spread_within zero p = []
  spread_within (suc d) p = sends_along (spread_within d) p 0 (length froms)
