-- A table of routes with some of them taken out: those stay whose numbers pass a test, in the same order. Assumes nothing: these are
-- definitions.
use Rattle.std.specs.Prelude.{Bool, true, ◌&&◌, List, [], ◌∷◌, ℕ, length}
use Rattle.lists.specs.Lists.{those, numbers_below, entries_at}

-- of n routes, the numbers of those that stay: the k-th of these is the old number of the route that is now route k
abbrev pub old_numbers : (ℕ → Bool) → ℕ → List ℕ
old_numbers keep n = those keep (numbers_below n)

-- what is left of a column
abbrev pub kept_of : (ℕ → Bool) → List ℕ → List ℕ
kept_of keep l = entries_at l (old_numbers keep (length l))

-- whether every route of a chain stays
abbrev pub every : (ℕ → Bool) → List ℕ → Bool
every keep [] = true
every keep (i ∷ c) = keep i && every keep c
