-- `placing::run` meets its contract: the bits of its value. Assumes nothing.
use Rattle.placing.proofs.Runs.{run_bits}
use Rattle.placing.proofs.run.Goals as goal

pub returns : goal.returns
returns c = run_bits c.args.start c.args.bits c.requires.to
