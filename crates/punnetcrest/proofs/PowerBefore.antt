-- Over the numbers of the power call: with 95 named it is the call before P6. Assumes nothing.
use Prim.Native.Nat.{ℕ}
use mathlib.Core.List.{List}
use mathlib.Core.Path.{◌≡◌, refl, ap}
use Rattle.std.specs.Prelude.{Option, Some, None}
use Rattle.power.specs.declared.State.{State}
use Rattle.power.specs.States.{state_numbered}
use Rattle.power.proofs.AsBefore.{as_before}
use Rattle.punnetcrest.specs.Powering.{seen_in, stepped_in_numbers, stepped_from, stepped}
use Rattle.punnetcrest.specs.PoweringBefore.{stepped_from_before_p6, stepped_before_p6}

module _ (state : ℕ) (seen : List ℕ) where
  pub named_95 : stepped state seen (Some 95) ≡ stepped_before_p6 state seen
  named_95 = go (state_numbered state)
    where
      go : (from : Option State) → stepped_from from state seen (Some 95) ≡ stepped_from_before_p6 from state seen
      go (Some from) = ap stepped_in_numbers (as_before (seen_in seen None) from)
      go None = refl
