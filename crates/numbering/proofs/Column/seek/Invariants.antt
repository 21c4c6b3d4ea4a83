-- `numbering::Column::seek` meets its contract: the slots passed hold other places, and with an empty slot left the search stops. Assumes nothing.
use Rattle.numbering.proofs.Seeking.{Seeking}
use Rattle.numbering.proofs.Column.seek.Given as goal

abbrev pub invariant-loop-tries : goal.invariant-loop-tries
invariant-loop-tries l = Seeking l.self l.slots l.place l.at l._tries
