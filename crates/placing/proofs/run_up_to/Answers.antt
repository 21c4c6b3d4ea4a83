-- `placing::run_up_to` meets its contract: the bits of its value. Assumes nothing.
use Rattle.placing.proofs.Runs.{run_up_to_bits}
use Rattle.placing.proofs.run_up_to.Goals as goal

pub returns : goal.returns
returns c = run_up_to_bits c.args.start c.args.last c.requires.0 c.requires.1
