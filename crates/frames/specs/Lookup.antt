-- Finding the message of an identifier in the columns of a book. Assumes nothing: these are definitions.
use Rattle.std.specs.Prelude.{◌≡◌, cond, List, [], ◌∷◌, ℕ, suc, ◌-◌, ◌≤◌, eqb, length, get_or, take, drop, Option, Some, None}
use Rattle.std.proofs.Math.Option.{none, some}
use Rattle.books.specs.Words.{side_by_side, messages_of}
use Rattle.framing.specs.Messages.{message_with}
use Rattle.record.specs.Columns.{message_count_of, ids_of, ends_of, numbers_of, starts_of}
use Rattle.record.specs.Limits.{signal_limit}
use Rattle.messages.specs.Signals.{AllFit, message_from}

-- how many entries stand before the first n: all, where none is n
unfoldable pub first_at : ℕ → List ℕ → ℕ
first_at n [] = 0
first_at n (x ∷ xs) = cond (eqb n x) 0 (suc (first_at n xs))

-- how many messages stand before the one that has the identifier
abbrev pub before : List ℕ → ℕ → ℕ
before words identifier = first_at identifier (take (message_count_of words) (ids_of words))

-- a part of a column
abbrev pub part : ℕ → ℕ → List ℕ → List ℕ
part from to column = take (to - from) (drop from column)

-- the parts of the columns from the end of the message before to its own are the placements of the identifier's message
pub record Spans (words : List ℕ) (identifier from to : ℕ) : Type 0 where
  pub begins : from ≡ get_or (0 ∷ ends_of words) (before words identifier) 0
  pub ends : to ≡ get_or (ends_of words) (before words identifier) 0
  pub order : from ≤ to
  pub inside : to ≤ signal_limit
  pub found : message_with identifier (messages_of words) ≡ some (message_from identifier (part from to (numbers_of words)) (part from to (starts_of words)))
  pub many : length (side_by_side (part from to (numbers_of words)) (part from to (starts_of words))) ≡ to - from
  pub same : length (part from to (starts_of words)) ≡ length (part from to (numbers_of words))
  pub fit : AllFit (side_by_side (part from to (numbers_of words)) (part from to (starts_of words)))

abbrev pub Finds : List ℕ → ℕ → Option (ℕ × ℕ) → Type 0
Finds words identifier (Some (from, to)) = Spans words identifier from to
Finds words identifier None = message_with identifier (messages_of words) ≡ none
