-- A place's routes are passed one by one, and what is left to write completes the spread; a route writes its end before it hands on. Both
-- end, since the longest chain that remains falls: twice its length for a place, and one more for the route that leads there.
-- Assumes nothing.
use Rattle.std.proofs.Common.{◌+◌, ◌*◌, get_or}
use Rattle.chains.proofs.Longest.{longest_from}
use Rattle.sending.specs.Writing.{live_froms, live_tos}
use Rattle.sending.proofs.Steps.{Going}
use Rattle.sending.proofs.+hand_on_send.Given as goal

abbrev pub decreases-hand_on : goal.decreases-hand_on
decreases-hand_on l = 2 * longest_from (live_froms l.book.now) (live_tos l.book.now) (get_or (live_tos l.book.now) l.route 0) + 1

abbrev pub decreases-send : goal.decreases-send
decreases-send l = 2 * longest_from (live_froms l.book.now) (live_tos l.book.now) l.place

abbrev pub invariant-send-loop-i : goal.invariant-send-loop-i
invariant-send-loop-i l = Going (live_froms l.book) (live_tos l.book) l.place l.initial.room l.at l.i l.room l.next
