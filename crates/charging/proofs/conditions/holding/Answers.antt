-- `charging::conditions::holding` meets its contract: at each `return` the tests that led there say which conditions hold, and which is the
-- first that does not. Assumes nothing.
use Rattle.charging.specs.Conditions.{conditions}
use Rattle.charging.proofs.conditions.holding.Goals as goal

pub returns-then-not-plug_is_seen : goal.returns-then-not-plug_is_seen
unfolding conditions
returns-then-not-plug_is_seen c = simp (← c.plug_is_seen.ensures, c.if-not-plug_is_seen.true)

pub returns-then-not-self_check_is_good : goal.returns-then-not-self_check_is_good
unfolding conditions
returns-then-not-self_check_is_good c = simp (← c.plug_is_seen.ensures, c.if-not-plug_is_seen.false, ← c.self_check_is_good.ensures, c.if-not-self_check_is_good.true)

pub returns-then-not-none_welded : goal.returns-then-not-none_welded
unfolding conditions
returns-then-not-none_welded c = simp (← c.plug_is_seen.ensures, c.if-not-plug_is_seen.false, ← c.self_check_is_good.ensures, c.if-not-self_check_is_good.false, ← c.none_welded.ensures, c.if-not-none_welded.true)

pub returns-then-not-main_relays_are_closed : goal.returns-then-not-main_relays_are_closed
unfolding conditions
returns-then-not-main_relays_are_closed c = simp (← c.plug_is_seen.ensures, c.if-not-plug_is_seen.false, ← c.self_check_is_good.ensures, c.if-not-self_check_is_good.false, ← c.none_welded.ensures, c.if-not-none_welded.false, ← c.main_relays_are_closed.ensures, c.if-not-main_relays_are_closed.true)

pub returns-then-not-charging_is_allowed : goal.returns-then-not-charging_is_allowed
unfolding conditions
returns-then-not-charging_is_allowed c = simp (← c.plug_is_seen.ensures, c.if-not-plug_is_seen.false, ← c.self_check_is_good.ensures, c.if-not-self_check_is_good.false, ← c.none_welded.ensures, c.if-not-none_welded.false, ← c.main_relays_are_closed.ensures, c.if-not-main_relays_are_closed.false, ← c.charging_is_allowed.ensures, c.if-not-charging_is_allowed.true)

pub returns-then-not-charge_relays_are_closed : goal.returns-then-not-charge_relays_are_closed
unfolding conditions
returns-then-not-charge_relays_are_closed c = simp (← c.plug_is_seen.ensures, c.if-not-plug_is_seen.false, ← c.self_check_is_good.ensures, c.if-not-self_check_is_good.false, ← c.none_welded.ensures, c.if-not-none_welded.false, ← c.main_relays_are_closed.ensures, c.if-not-main_relays_are_closed.false, ← c.charging_is_allowed.ensures, c.if-not-charging_is_allowed.false, ← c.charge_relays_are_closed.ensures, c.if-not-charge_relays_are_closed.true)

pub returns : goal.returns
unfolding conditions
returns c = simp (← c.plug_is_seen.ensures, c.if-not-plug_is_seen.false, ← c.self_check_is_good.ensures, c.if-not-self_check_is_good.false, ← c.none_welded.ensures, c.if-not-none_welded.false, ← c.main_relays_are_closed.ensures, c.if-not-main_relays_are_closed.false, ← c.charging_is_allowed.ensures, c.if-not-charging_is_allowed.false, ← c.charge_relays_are_closed.ensures, c.if-not-charge_relays_are_closed.false)
