-- `power::relays_fit` meets its contract. Assumes nothing.
use Rattle.power.proofs.relays_fit.Goals as goal

pub returns : goal.returns
returns c = cc
