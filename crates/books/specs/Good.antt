-- The sentence of Built.antt as a test on messages as they stand. It says nothing of its own: proofs/Building.antt shows that
-- messages pass it just where lines build them. Assumes nothing: these are definitions.
use Rattle.std.specs.Prelude.{ℕ, Bool, true, ◌&&◌, ◌||◌, not, List, [], ◌∷◌, ◌++◌, leb, length}
use Rattle.books.specs.Book.{Placement, Message, numbers, all_placements}
use Rattle.books.specs.Lines.{is_in, unknown_or_over, misplaced, meets_earlier, identifier_limit, message_limit, signal_limit}

-- a signal is not refused for itself (3, 7) or for one of those before it in its message (6, 8)
abbrev pub fits_after : List Placement → Placement → Bool
fits_after before p = not (unknown_or_over p || (is_in p.number (numbers before) || (misplaced p || meets_earlier before p)))

-- none of the signals is, each after those before it
unfoldable pub good_after : List Placement → List Placement → Bool
good_after before [] = true
good_after before (p ∷ ps) = fits_after before p && good_after (before ++ (p ∷ [])) ps

-- none of the messages is refused for its identifier (3), for that of one before it (5), or for its signals
unfoldable pub good_from : List ℕ → List Message → Bool
good_from before [] = true
good_from before (m ∷ ms) =
    not (leb identifier_limit m.identifier || is_in m.identifier before) &&
    (good_after [] m.placements && good_from (before ++ (m.identifier ∷ [])) ms)

-- and there are no more of them than a book may have (9)
unfoldable pub good : List Message → Bool
good ms = good_from [] ms && (leb (length ms) message_limit && leb (length (all_placements ms)) signal_limit)
