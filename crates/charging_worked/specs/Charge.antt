-- A charge, worked by hand: what is seen, and the state that follows, from the plug to ready, back by what is lost, through a weld and out of
-- it; and one observation that is refused. Assumes nothing.
use Rattle.std.specs.Prelude.{ℕ, List, [], ◌∷◌}
use Rattle.charging.specs.declared.ChargeObservation.{ChargeObservation}
use Rattle.charging.specs.declared.ChargeState.{ChargeState}
use Rattle.charging.specs.declared.ChargeState.TheVariants.{Start, PlugSeen, SelfChecked, NoWeld, MainClosed, ChargingAllowed, ReadyToCharge, Fault}
use Rattle.charging.specs.Refusals.{charge_refusal, charge_step_of}

-- an observation: 1708, 1605, 313 for the four welds, 301 and 302 together, 1709, 304 and 306 together
abbrev pub truck_seen : ℕ → ℕ → ℕ → ℕ → ℕ → ℕ → ChargeObservation
truck_seen plug check weld main allowed charge =
    record {
      plug = record { 0 = plug };
      self_check = record { 0 = check };
      main_positive_welded = record { 0 = 0 };
      main_negative_welded = record { 0 = weld };
      heating_positive_welded = record { 0 = 0 };
      heating_negative_welded = record { 0 = 0 };
      main_positive = record { 0 = main };
      main_negative = record { 0 = main };
      allowed = record { 0 = allowed };
      charge_positive = record { 0 = charge };
      charge_negative = record { 0 = charge };
    }

-- what is seen; the refusal and the state that follow
pub record WorkedStep : Type 0 where
  pub seen : ChargeObservation
  pub why : ℕ
  pub after : ChargeState

abbrev pub leads_to : ChargeObservation → ℕ → ChargeState → WorkedStep
leads_to seen why after = record { seen = seen; why = why; after = after }

unfoldable pub worked_charge : List WorkedStep
worked_charge =
    leads_to (truck_seen 0 0 0 1 0 1) 0 Start
    ∷ leads_to (truck_seen 1 1 0 1 0 1) 0 PlugSeen
    ∷ leads_to (truck_seen 1 0 0 1 0 1) 0 SelfChecked
    ∷ leads_to (truck_seen 1 0 0 1 0 1) 0 NoWeld
    ∷ leads_to (truck_seen 1 0 0 1 0 1) 0 NoWeld
    ∷ leads_to (truck_seen 1 0 0 2 0 1) 0 MainClosed
    ∷ leads_to (truck_seen 1 0 0 2 1 1) 0 ChargingAllowed
    ∷ leads_to (truck_seen 1 0 0 2 1 2) 0 ReadyToCharge
    ∷ leads_to (truck_seen 1 0 0 2 1 2) 0 ReadyToCharge
    ∷ leads_to (truck_seen 1 0 0 2 1 4) 81 ReadyToCharge
    ∷ leads_to (truck_seen 1 0 0 2 1 1) 0 ChargingAllowed
    ∷ leads_to (truck_seen 1 3 0 2 1 2) 0 PlugSeen
    ∷ leads_to (truck_seen 1 0 0 2 1 2) 0 SelfChecked
    ∷ leads_to (truck_seen 1 0 1 2 1 2) 0 Fault
    ∷ leads_to (truck_seen 1 0 0 2 1 2) 0 Fault
    ∷ leads_to (truck_seen 0 0 1 1 0 1) 0 Fault
    ∷ leads_to (truck_seen 0 0 0 1 0 1) 0 Start
    ∷ []

-- the answers of a monitor that is given these observations, from a state on
abbrev pub answers_from : ChargeState → List WorkedStep → List (ℕ × ChargeState)
answers_from state [] = []
answers_from state (w ∷ more) =
    (charge_refusal (charge_step_of state w.seen).answer, (charge_step_of state w.seen).state) ∷ answers_from (charge_step_of state w.seen).state more
