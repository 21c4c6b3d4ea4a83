-- The call's contract allows one outcome and no other: what it returns, with *state as it leaves it. Assumes nothing.
use mathlib.Core.Path.{refl}
use Prim.Native.Nat.{ℕ}
use mathlib.Core.List.{List}
use seplogic.Ra.Ura.{Ura}
use base.Logic.{SProp}
use base.Stored.{coded_ℕ, coded×}
use prog.Memory.{Memory}
use prog.Routine.{Routine}
use types.Logic.{Logic}
use contract.Lifetimes.{Lfts}
use contract.Monad.{Fun}
use denote.Bor.{Bor}
use denote.Ref.{MutBor, at_last}
use Rattle.only.specs.Only.{Only, only_this}
use Rattle.tester.specs.Following.{charge_followed}
use Rattle.tester.specs.contracts.following.pct_charge_step as charge-step

module _ {M : Type 1} {𝓤 : Ura M} (𝓛 : Logic 𝓤) (mem : Memory → SProp 𝓤) (run : Routine → Fun 𝓤) where
  pub one_charge_step : (κs : Lfts 2) (state : MutBor ℕ) (seen : Bor (List ℕ))
      → Only 𝓤 (λ (x : ℕ × ℕ). (charge-step.clauses 𝓛 mem run κs (state, (seen, tt))).ensures tt x.0 (at_last state x.1, (seen, tt)))
  one_charge_step κs state seen = only_this 𝓤 _ (coded× coded_ℕ coded_ℕ) (charge_followed state.now seen.now) (λ x. refl)
