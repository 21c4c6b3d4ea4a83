-- What a spread has to be, whichever way it is made. Assumes nothing: these are definitions.
use Rattle.std.specs.Prelude.{ℕ, ◌≤◌, length}
use mathlib.Core.List.{List, Memᴰ}
use Rattle.chains.specs.Chain.{Chain}
use Rattle.chains.specs.Spread.{Distinct}

-- l has every place that a chain from p reaches, nothing else, each once, and no more than there are routes
pub record Lists (froms tos : List ℕ) (p : ℕ) (l : List ℕ) : Type 0 where
  pub every : (q : ℕ) (c : List ℕ) → Chain froms tos p c q → Memᴰ q l
  pub only : (q : ℕ) → Memᴰ q l → (c : List ℕ) × Chain froms tos p c q
  pub once : Distinct l
  pub few : length l ≤ length froms
