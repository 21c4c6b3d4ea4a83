-- `charging::widths::main_relays_fit` meets its contract: each of its calls answers for one count. Assumes nothing.
use Rattle.charging.proofs.widths.main_relays_fit.Goals as goal

pub returns : goal.returns
returns c = cc
