-- The messages of a taken book: what `M` and `S` lines, each of them taken, can build. Assumes nothing: these are definitions.
use Rattle.std.specs.Prelude.{◌≡◌, ℕ, List, [], ◌∷◌, ◌++◌}
use Rattle.books.specs.Book.{Placement, Message, fresh, in_last}
use Rattle.books.specs.Lines.{message_refusal, signal_refusal}

-- messages that come about line by line, none of the lines refused
pub data Built : List Message → Type 0 where
  none : Built []
  message : {ms : List Message} (i : ℕ) → Built ms → message_refusal ms i ≡ 0 → Built (ms ++ (fresh i ∷ []))
  signal : {ms : List Message} (p : Placement) → Built ms → signal_refusal ms p ≡ 0 → Built (in_last ms p)
