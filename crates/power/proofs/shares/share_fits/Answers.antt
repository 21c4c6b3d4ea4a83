-- `power::shares::share_fits` meets its contract. Assumes nothing.
use Rattle.power.proofs.shares.share_fits.Goals as goal

pub returns : goal.returns
returns c = cc
