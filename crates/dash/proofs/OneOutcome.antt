-- The contract of the call allows one outcome and no other. Assumes nothing.
use mathlib.Core.Path.{refl}
use Prim.Native.Nat.{ℕ}
use seplogic.Ra.Ura.{Ura}
use base.Logic.{SProp}
use prog.Memory.{Memory}
use prog.Routine.{Routine}
use types.Logic.{Logic}
use contract.Monad.{Fun}
use denote.Triple.Clauses.{AtExit}
use Rattle.only.specs.Only.{Only, only_this}
use Rattle.catalogue.specs.declared.Raw.{Raw}
use Rattle.dash.specs.Answer.{dash_of}
use Rattle.std.specs.Coded.{coded_result}
use Rattle.catalogue.specs.contracts.NoClass as the-no-class
use Rattle.dash.specs.contracts.Dash as the-dash
use Rattle.dash.specs.contracts.show as the_call

module _ {M : Type 1} {𝓤 : Ura M} (𝓛 : Logic 𝓤) (mem : Memory → SProp 𝓤) (run : Routine → Fun 𝓤) where
  pub one_show : (number : ℕ) (raw : Raw) (e : AtExit the_call.ended tt) → Only 𝓤 (λ r. (the_call.clauses 𝓛 mem run tt (number, (raw, tt))).ensures tt r e)
  one_show number raw e = only_this 𝓤 _ (coded_result (the-dash.the_row).coded (the-no-class.the_row).coded) (dash_of number raw) (λ r. refl)
