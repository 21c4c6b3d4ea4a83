-- `listing::message::put_signals` meets its contract: writing what is left gives the final list. Assumes nothing.
use Rattle.listing.proofs.Walking.{Walked}
use Rattle.listing.proofs.message.put_signals.Given as goal

abbrev pub invariant-loop-i : goal.invariant-loop-i
invariant-loop-i l = Walked l.initial.out l.at l.figures l.identifier l.word l.numbers l.starts l.out l.next l.i
