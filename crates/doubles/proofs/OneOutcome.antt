-- The contract of each public function allows one outcome and no other. Assumes nothing.
use mathlib.Core.Path.{refl}
use seplogic.Ra.Ura.{Ura}
use base.Logic.{SProp}
use base.Stored.{coded_ℕ, coded_float}
use prog.Memory.{Memory}
use prog.Routine.{Routine}
use types.Logic.{Logic}
use contract.Monad.{Fun}
use denote.Triple.Clauses.{AtExit}
use lib.Ieee.{binary64, to_bits}
use Rattle.only.specs.Only.{Only, only_this}
use Rattle.catalogue.specs.declared.Thousandths.{Thousandths}
use Rattle.doubles.specs.Doubles.{in_units_spec}
use Rattle.doubles.specs.contracts.in_units as in-units
use Rattle.doubles.specs.contracts.bits_in_units as bits-in-units

module _ {M : Type 1} {𝓤 : Ura M} (𝓛 : Logic 𝓤) (mem : Memory → SProp 𝓤) (run : Routine → Fun 𝓤) where
  pub one_in_units : (reading : Thousandths) (e : AtExit in-units.ended tt) → Only 𝓤 (λ r. (in-units.clauses 𝓛 mem run tt (reading, tt)).ensures tt r e)
  one_in_units reading e = only_this 𝓤 _ coded_float (in_units_spec reading) (λ r. refl)

  pub one_bits_in_units : (reading : Thousandths) (e : AtExit bits-in-units.ended tt) → Only 𝓤 (λ r. (bits-in-units.clauses 𝓛 mem run tt (reading, tt)).ensures tt r e)
  one_bits_in_units reading e = only_this 𝓤 _ coded_ℕ (to_bits binary64 (in_units_spec reading)) (λ r. refl)
