-- `power::observed::shows_picture` meets its contract: each arm has the number of its state's picture. Assumes nothing.
use Rattle.power.specs.Pictures.{picture}
use Rattle.power.proofs.PictureNumbers.{ooo, coo, coc, cco, ccc}
use Rattle.power.proofs.observed.shows_picture.Goals as goal

pub returns-in-Off : goal.returns-in-Off
unfolding picture
returns-in-Off c = simp (c.in-Off.is, c.relays_shown-shown.ensures, ooo c.args.tested.seen c.args.tested.fit)

pub returns-in-Rising : goal.returns-in-Rising
unfolding picture
returns-in-Rising c = simp (c.in-Rising.is, c.relays_shown-shown.ensures, coo c.args.tested.seen c.args.tested.fit)

pub returns-in-Precharge : goal.returns-in-Precharge
unfolding picture
returns-in-Precharge c = simp (c.in-Precharge.is, c.relays_shown-shown.ensures, cco c.args.tested.seen c.args.tested.fit)

pub returns-in-Both : goal.returns-in-Both
unfolding picture
returns-in-Both c = simp (c.in-Both.is, c.relays_shown-shown.ensures, ccc c.args.tested.seen c.args.tested.fit)

pub returns-in-On : goal.returns-in-On
unfolding picture
returns-in-On c = simp (c.in-On.is, c.relays_shown-shown.ensures, coc c.args.tested.seen c.args.tested.fit)

pub returns-in-Falling : goal.returns-in-Falling
unfolding picture
returns-in-Falling c = simp (c.in-Falling.is, c.relays_shown-shown.ensures, coo c.args.tested.seen c.args.tested.fit)

pub returns-in-Fault : goal.returns-in-Fault
unfolding picture
returns-in-Fault c = simp c.in-Fault.is
