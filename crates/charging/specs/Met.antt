-- Every condition holds in an observation, said count by count; and the first one that is lost. Assumes nothing.
use Rattle.std.specs.Prelude.{◌≡◌, true, false, ◌⊎◌, ℕ, ◌<◌, take, Some}
use Rattle.charging.specs.declared.ChargeObservation.{ChargeObservation}
use Rattle.charging.specs.Observed.{count_seen}
use Rattle.charging.specs.Conditions.{conditions}
use Rattle.charging.specs.Rules.{each_holds, next_holds}

-- "every condition holds in that same observation"
pub record EveryCondition (seen : ChargeObservation) : Type 0 where
  pub plug : (count_seen 1708 seen ≡ Some 1) ⊎ ((count_seen 1708 seen ≡ Some 2) ⊎ (count_seen 1708 seen ≡ Some 3))
  pub self_check : count_seen 1605 seen ≡ Some 0
  pub unwelded : (count_seen 311 seen ≡ Some 0) × ((count_seen 313 seen ≡ Some 0) × ((count_seen 325 seen ≡ Some 0) × (count_seen 327 seen ≡ Some 0)))
  pub main_relays : (count_seen 301 seen ≡ Some 2) × (count_seen 302 seen ≡ Some 2)
  pub allowed : count_seen 1709 seen ≡ Some 1
  pub charge_relays : (count_seen 304 seen ≡ Some 2) × (count_seen 306 seen ≡ Some 2)

-- of the conditions met so far the one after so many is lost, and it is the first: all before it hold
pub record FirstLost (met before : ℕ) (seen : ChargeObservation) : Type 0 where
  pub met_so_far : before < met
  pub lost : next_holds conditions before seen ≡ false
  pub first : each_holds (take before conditions) seen ≡ true
