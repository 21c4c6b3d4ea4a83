-- `punnetcrest::spreading::pc_spread` meets its contract: in each arm the answer is the one that the arm names. Assumes nothing.
use Rattle.punnetcrest.proofs.SpreadNumbers.{as_spread, refused}
use Rattle.punnetcrest.proofs.spreading.pc_spread.Goals as goal

pub returns-in-Ok : goal.returns-in-Ok
returns-in-Ok c = as_spread _ _ _ _ _ c.spread.ensures c.in-Ok.is

pub returns-in-Err : goal.returns-in-Err
returns-in-Err c = refused _ _ _ _ _ _ c.spread.ensures c.in-Err.is c.from.ensures
