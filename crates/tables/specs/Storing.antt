-- The words of a book with those of one more line stored at the ends of the columns, and the counts raised: how an addition works, and
-- no promise. proofs/Stored.antt shows that they are the words of the book with the line. Assumes nothing: these are definitions.
use Rattle.std.specs.Prelude.{List, ℕ, ◌+◌, ◌-◌, set}
use Rattle.record.specs.Columns.{message_count_at, signal_count_at, route_count_at, ids_at, ends_at, numbers_at, starts_at, froms_at, tos_at}

-- a message after `count` others, which ends where the signals end
abbrev pub message_stored : List ℕ → ℕ → ℕ → ℕ → List ℕ
message_stored words count identifier end = set (set (set words (ids_at + count) identifier) (ends_at + count) end) message_count_at (count + 1)

-- a signal after `signals` others, of the last of the messages, which now ends with it
abbrev pub signal_stored : List ℕ → ℕ → ℕ → ℕ → ℕ → List ℕ
signal_stored words messages signals number start =
    set (set (set (set words (numbers_at + signals) number) (starts_at + signals) start) (ends_at + (messages - 1)) (signals + 1)) signal_count_at (signals + 1)

-- a route after `count` others
abbrev pub route_stored : List ℕ → ℕ → ℕ → ℕ → List ℕ
route_stored words count from to = set (set (set words (froms_at + count) from) (tos_at + count) to) route_count_at (count + 1)
