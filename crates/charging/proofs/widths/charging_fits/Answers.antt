-- `charging::widths::charging_fits` meets its contract: each of its calls answers for one count. Assumes nothing.
use Rattle.charging.proofs.widths.charging_fits.Goals as goal

pub returns : goal.returns
returns c = cc
