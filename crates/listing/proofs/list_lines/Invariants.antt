-- `listing::list_lines` meets its contract: what is listed of the rest, after what was listed, is the listing of the whole. Assumes nothing.
use Prim.Native.Nat.{◌-◌}
use lib.ListN.{length}
use Rattle.books.specs.Words.{messages_of}
use Rattle.listing.specs.Printout.{printout}
use Rattle.listing.proofs.Running.{Ran}
use Rattle.listing.proofs.list_lines.Given as goal

abbrev pub invariant-loop-used : goal.invariant-loop-used
invariant-loop-used l = Ran (printout l.figures (messages_of l.book.words.now)) l.text l.initial.out l.out l.used l.written

abbrev pub decreases-loop-used : goal.decreases-loop-used
decreases-loop-used l = length l.text - l.used
