-- `line::route` meets its contract: each number that is found is written there, and where one is not the line is ill formed. Assumes nothing.
use native.Mathlib.Omega.{arith}
use Rattle.line.proofs.Rooms.{from_bus_ill, from_id_ill, to_bus_ill, to_id_ill, route_few, route_well}
use Rattle.line.proofs.route.Goals as goal

pub returns-in_err-from_bus : goal.returns-in_err-from_bus
returns-in_err-from_bus c = rw c.from_residual.ensures (from_bus_ill _ c.in_err-from_bus.ensures)

pub returns-in_err-from_id : goal.returns-in_err-from_id
returns-in_err-from_id c = rw c.from_residual-in_err-from_id.ensures (from_id_ill _ c.in_ok-from_bus.ensures c.in_err-from_id.ensures)

pub returns-in_err-to_bus : goal.returns-in_err-to_bus
returns-in_err-to_bus c =
    rw c.from_residual-in_err-to_bus.ensures (to_bus_ill _ c.in_ok-from_bus.ensures c.in_ok-from_id.ensures c.in_err-to_bus.ensures)

pub returns-in_err-to_id : goal.returns-in_err-to_id
returns-in_err-to_id c =
    rw c.from_residual-in_err-to_id.ensures
    (to_id_ill _ c.in_ok-from_bus.ensures c.in_ok-from_id.ensures c.in_ok-to_bus.ensures c.in_err-to_id.ensures)

pub overflow_add-result-4 : goal.overflow_add-result-4
overflow_add-result-4 c = omega (arith, route_few _ c.in_ok-from_bus.ensures c.in_ok-from_id.ensures c.in_ok-to_bus.ensures c.in_ok-to_id.ensures)

pub returns : goal.returns
returns c =
    route_well _ c.in_ok-from_bus.ensures c.in_ok-from_id.ensures c.in_ok-to_bus.ensures c.in_ok-to_id.ensures
