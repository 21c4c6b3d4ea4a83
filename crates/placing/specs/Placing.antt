-- A signal by itself, and the room that it needs. Assumes nothing: these are definitions.
use Rattle.std.specs.Prelude.{Bool, ◌||◌, not, ℕ, ◌+◌, ◌≤◌, ◌<◌}
use Rattle.rows.specs.Rule.{most_bits}
use Rattle.books.specs.Book.{Placement}
use Rattle.books.specs.Lines.{unknown_or_over, misplaced, frame_bits}

-- a signal of the catalogue that stands where it may, by itself
abbrev pub stands_alone : Placement → Bool
stands_alone p = not (unknown_or_over p || misplaced p)

-- a frame has room for so many bits, one or more, from start on
pub record FrameRoom (start bits : ℕ) : Type 0 where
  pub from : start < frame_bits
  pub some : 0 < bits
  pub few : bits ≤ most_bits
  pub to : start + bits ≤ frame_bits
