-- The verdict on a table of routes, over its chains: what is promised of refusals 10 and 11, in the words of `chains: Chain`
-- alone. How it is found is not said here. Assumes nothing: these are definitions.
use Rattle.std.specs.Prelude.{ℕ, ◌<◌, List}
use Rattle.chains.specs.Chain.{OnClosed, LoopFree, BeginsDoubling, IsSound}
use Rattle.verdict.specs.declared.Verdict.{Verdict}
use Rattle.verdict.specs.declared.Verdict.TheVariants.{Loop, Doubling, Sound}

-- P holds of route i and of no lower one
abbrev pub Lowest : (ℕ → Type 0) → ℕ → Type 0
Lowest P i = P i × ((k : ℕ) → k < i → P k → ⊥)

-- 10: a closed chain exists, and the route is the lowest on one
-- 11: none does, but two different chains join the same two places, and the route is the lowest that begins one of such a pair
-- otherwise the table is sound
abbrev pub Judged : List ℕ → List ℕ → Verdict → Type 0
Judged froms tos (Loop i) = Lowest (OnClosed froms tos) i
Judged froms tos (Doubling i) = LoopFree froms tos × Lowest (BeginsDoubling froms tos) i
Judged froms tos Sound = IsSound froms tos
