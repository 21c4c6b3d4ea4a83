-- `power::observed::all_open` meets its contract. Assumes nothing.
use Rattle.power.proofs.PictureNumbers.{ooo}
use Rattle.power.proofs.observed.all_open.Goals as goal

pub returns : goal.returns
returns c = simp (c.relays_shown.ensures, ooo c.args.tested.seen c.args.tested.fit)
