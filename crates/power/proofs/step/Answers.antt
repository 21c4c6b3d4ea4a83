-- `power::step` meets its contract: the tests that led to each `return` say which refusal it is, or that there is none. Assumes nothing.
use Rattle.power.specs.Refusals.{step_of}
use Rattle.power.proofs.step.Goals as goal

pub returns-then-not-relays : goal.returns-then-not-relays
unfolding step_of
returns-then-not-relays c = simp (← c.relays_fit-relays.ensures, c.if-not-relays.true)

pub returns-then-not-commands : goal.returns-then-not-commands
unfolding step_of
returns-then-not-commands c = simp (← c.relays_fit-relays.ensures, ← c.commands_fit-commands.ensures, c.if-not-relays.false, c.if-not-commands.true)

pub returns-then-not-readings : goal.returns-then-not-readings
unfolding step_of
returns-then-not-readings c = simp (← c.relays_fit-relays.ensures, ← c.commands_fit-commands.ensures, ← c.readings_fit-readings.ensures, c.if-not-relays.false, c.if-not-commands.false, c.if-not-readings.true)

pub returns-then-not-fitting : goal.returns-then-not-fitting
unfolding step_of
returns-then-not-fitting c = simp (← c.relays_fit-relays.ensures, ← c.commands_fit-commands.ensures, ← c.readings_fit-readings.ensures, ← c.share_fits-fitting.ensures, c.if-not-relays.false, c.if-not-commands.false, c.if-not-readings.false, c.if-not-fitting.true)

pub returns : goal.returns
unfolding step_of
returns c = simp (← c.relays_fit-relays.ensures, ← c.commands_fit-commands.ensures, ← c.readings_fit-readings.ensures, ← c.share_fits-fitting.ensures, c.if-not-relays.false, c.if-not-commands.false, c.if-not-readings.false, c.if-not-fitting.false, c.next_state.ensures)
