-- The picture of each state. Assumes nothing.
use Rattle.std.specs.Prelude.{Bool, false}
use Rattle.power.specs.declared.Observation.{Observation}
use Rattle.power.specs.declared.State.{State}
use Rattle.power.specs.declared.State.TheVariants.{Off, Rising, Precharge, Both, On, Falling, Fault}
use Rattle.power.specs.Observed.{open_relay, closed_relay, shows}

-- "off ooo, rising coo, precharge cco, both ccc, on coc, falling coo, fault", which has none: does the observation show it?
unfoldable pub picture : State → Observation → Bool
picture Off = shows open_relay open_relay open_relay
picture Rising = shows closed_relay open_relay open_relay
picture Precharge = shows closed_relay closed_relay open_relay
picture Both = shows closed_relay closed_relay closed_relay
picture On = shows closed_relay open_relay closed_relay
picture Falling = shows closed_relay open_relay open_relay
picture Fault = λ seen. false
