-- Voltages with their share, worked by hand: "inside 6000: 5700 complete, 5699 not" with 95 named, and the edges of other shares; never
-- complete at 0 V, where a voltage is invalid, or with a share outside 50 to 100. Assumes nothing: these are definitions.
use Rattle.power.specs.Shares.{Share}
use Rattle.std.specs.Prelude.{Bool, true, false, List, [], ◌∷◌, ℕ, Some, None, Err}
use Rattle.catalogue.specs.declared.Raw.{Raw}
use Rattle.power.specs.declared.Observation.{Observation}
use Rattle.power.specs.declared.PowerRefusal.TheVariants.{ShareOutOfRange}
use Rattle.power.specs.declared.State.TheVariants.{Precharge, Both, Fault}
use Rattle.power.specs.Refusals.{state_and_answer, step_taken, Stepped}

-- the share, the raw counts of the two voltages, and whether precharge is complete by them
pub record Precharging : Type 0 where
  pub share : Share
  pub inside : Raw
  pub outside : Raw
  pub complete : Bool

abbrev pub volts : Share → ℕ → ℕ → Bool → Precharging
volts share inside outside complete = record { share = share; inside = record { 0 = inside }; outside = record { 0 = outside }; complete = complete }

unfoldable pub precharges : List Precharging
precharges =
    volts (Some 95) 6000 5700 true
    ∷ volts (Some 95) 6000 5699 false
    ∷ volts None 6000 5400 true
    ∷ volts None 6000 5399 false
    ∷ volts (Some 90) 6000 5400 true
    ∷ volts (Some 90) 6000 5399 false
    ∷ volts (Some 50) 6000 3000 true
    ∷ volts (Some 50) 6000 2999 false
    ∷ volts (Some 100) 6000 6000 true
    ∷ volts (Some 100) 6000 5999 false
    ∷ volts (Some 49) 6000 6000 false
    ∷ volts (Some 101) 6000 65534 false
    ∷ volts (Some 50) 0 0 false
    ∷ volts (Some 50) 0 65534 false
    ∷ volts (Some 50) 65535 65534 false
    ∷ volts (Some 50) 1 65535 false
    ∷ volts (Some 100) 65534 65534 true
    ∷ []

-- main positive closes on command 1, at 0 A, with these voltages and this share
abbrev pub closing_with : Precharging → Observation
closing_with w =
    record {
      main_negative = record { 0 = 2 };
      precharge = record { 0 = 2 };
      main_positive = record { 0 = 2 };
      command = record { 0 = 1 };
      emergency_off = record { 0 = 0 };
      current = record { 0 = 20000 };
      inside = w.inside;
      outside = w.outside;
      share = w.share;
    }

abbrev to_both : Stepped
to_both = state_and_answer Both step_taken

abbrev to_fault : Stepped
to_fault = state_and_answer Fault step_taken

abbrev refused44 : Stepped
refused44 = state_and_answer Precharge (Err ShareOutOfRange)

-- what the step from precharge then leaves, of each of the list in its order
unfoldable pub closings : List Stepped
closings =
    to_both ∷ to_fault
    ∷ to_both ∷ to_fault
    ∷ to_both ∷ to_fault
    ∷ to_both ∷ to_fault
    ∷ to_both ∷ to_fault
    ∷ refused44 ∷ refused44
    ∷ to_fault ∷ to_fault ∷ to_fault ∷ to_fault
    ∷ to_both
    ∷ []
