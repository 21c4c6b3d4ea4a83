-- What writing digits asks for. Assumes nothing.
use Rattle.std.specs.Prelude.{ℕ, ◌+◌, ◌^◌, ◌≤◌, ◌<◌, List, length}

-- k digits of a base hold n, and have room at a place of a list
pub record DigitRoom (l : List ℕ) (at k n base : ℕ) : Type 0 where
  pub inside : at + k ≤ length l
  pub some : 0 < base
  pub few : base ≤ 16
  pub holds : n < base ^ k
