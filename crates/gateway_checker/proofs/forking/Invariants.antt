-- `gateway_checker::forking` meets its contract: what was seen is what the routes passed lead on to, by where they start. Assumes nothing.
use Rattle.gateway_checker.proofs.Gathering.{Gathering}
use Rattle.gateway_checker.proofs.forking.Given as goal

abbrev pub invariant-loop-t : goal.invariant-loop-t
invariant-loop-t l = Gathering l.table.starts.now l.onward l.down l.t l.seen l.forks
