-- `power::rules::next_state` meets its contract: each arm follows the rules from its state, and knows what its calls answer; the arm of
-- fault makes one call, the others two. Assumes nothing.
use mathlib.Core.Bool.{and-true}
use Rattle.power.specs.Rules.{rule3, rule4, step_else, next_state_spec}
use Rattle.power.proofs.rules.next_state.Goals as goal

pub returns-in-Off : goal.returns-in-Off
unfolding next_state_spec
returns-in-Off c = simp (c.by_rules.ensures, c.from_off.ensures, c.in-Off.is)

pub returns-in-Rising : goal.returns-in-Rising
unfolding next_state_spec
returns-in-Rising c = simp (c.by_rules-in-Rising.ensures, c.from_rising.ensures, c.in-Rising.is)

pub returns-in-Precharge : goal.returns-in-Precharge
unfolding next_state_spec
returns-in-Precharge c = simp (c.by_rules-in-Precharge.ensures, c.from_precharge.ensures, c.in-Precharge.is)

pub returns-in-Both : goal.returns-in-Both
unfolding next_state_spec step_else rule3 rule4
returns-in-Both c = simp (c.by_rules-in-Both.ensures, c.only_to.ensures, c.in-Both.is, and-true)

pub returns-in-On : goal.returns-in-On
unfolding next_state_spec
returns-in-On c = simp (c.by_rules-in-On.ensures, c.from_on.ensures, c.in-On.is)

pub returns-in-Falling : goal.returns-in-Falling
unfolding next_state_spec step_else rule3 rule4
returns-in-Falling c = simp (c.by_rules-in-Falling.ensures, c.only_to-in-Falling.ensures, c.in-Falling.is, and-true)

pub returns-in-Fault : goal.returns-in-Fault
unfolding next_state_spec
returns-in-Fault c = simp (c.from_fault.ensures, c.in-Fault.is)
