-- The states of a charge, and their numbers. Assumes nothing.
use Rattle.std.specs.Option.{ok_or}
use Rattle.std.specs.Prelude.{ℕ, cond, List, [], ◌∷◌, eqb, leb, get_or, Option, None, Some, Result}
use Rattle.charging.specs.declared.ChargeState.{ChargeState}
use Rattle.charging.specs.declared.ChargeState.TheVariants.{Start, PlugSeen, SelfChecked, NoWeld, MainClosed, ChargingAllowed, ReadyToCharge, Fault}
use Rattle.charging.specs.declared.NotAChargeState.{NotAChargeState}

-- "a start", in which a monitor begins
abbrev pub charge_start : ChargeState
charge_start = Start

-- the steps, by how many conditions are met: "a start, one for each condition met with all before it, the sixth of them called ready"
abbrev pub charge_steps : List ChargeState
charge_steps = Start ∷ PlugSeen ∷ SelfChecked ∷ NoWeld ∷ MainClosed ∷ ChargingAllowed ∷ ReadyToCharge ∷ []

-- "and fault", which is no step: it comes after the last
abbrev pub step_with_spec : ℕ → ChargeState
step_with_spec met = get_or charge_steps met Fault

-- a state's number: of a step, how many conditions are met
abbrev pub charge_number : ChargeState → ℕ
charge_number Start = 0
charge_number PlugSeen = 1
charge_number SelfChecked = 2
charge_number NoWeld = 3
charge_number MainClosed = 4
charge_number ChargingAllowed = 5
charge_number ReadyToCharge = 6
charge_number Fault = 7

abbrev fault_number : ℕ
fault_number = charge_number Fault

-- how many conditions are met in a state: in fault there is no such number
abbrev pub met_in : ChargeState → Option ℕ
met_in state = cond (eqb (charge_number state) fault_number) None (Some (charge_number state))

-- the state of a number, where there is one
unfoldable pub charge_numbered : ℕ → Option ChargeState
charge_numbered n = cond (leb n fault_number) (Some (step_with_spec n)) None

-- the same as a conversion answers it: the number itself, where it is no state's
abbrev pub charge_state_or_not : ℕ → Result ChargeState NotAChargeState
charge_state_or_not n = ok_or (charge_numbered n) (record { 0 = n })
