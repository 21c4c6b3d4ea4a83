-- `gateway_checker::starts_of` meets its contract: the mask has where those of the routes passed start. Assumes nothing.
use Rattle.gateway_checker.proofs.Starting.{Starting}
use Rattle.gateway_checker.proofs.starts_of.Given as goal

abbrev pub invariant-loop-a : goal.invariant-loop-a
invariant-loop-a l = Starting l.table.starts.now l.routes l.a l.at
