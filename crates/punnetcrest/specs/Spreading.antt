-- The spread in numbers: what the call returns, with the room for places and *count as it leaves them. Assumes nothing.
use Rattle.std.specs.Prelude.{ℕ, ◌≡◌, List}
use Rattle.routes.specs.Answers.{SpreadAnswer}
use Rattle.punnetcrest.specs.Counted.{count_left}

-- pc_spread, with these words, bus, identifier, room and *count, returns r and leaves the room and *count so
pub record SpreadCall (words : List ℕ) (bus identifier : ℕ) (room : List ℕ) (count r : ℕ) (after : List ℕ) (counted : ℕ) : Type 0 where
  pub written : ℕ
  pub answer : SpreadAnswer words bus identifier room r written after
  pub count_after : counted ≡ count_left r written count
