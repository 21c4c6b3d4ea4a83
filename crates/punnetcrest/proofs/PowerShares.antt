-- Over the numbers of the two power calls: none given is 90 named. Assumes nothing.
use Prim.Native.Nat.{ℕ}
use mathlib.Core.List.{List}
use mathlib.Core.Path.{◌≡◌, refl, ap}
use Rattle.std.specs.Prelude.{Option, Some, None}
use Rattle.power.specs.declared.State.{State}
use Rattle.power.specs.States.{state_numbered}
use Rattle.power.proofs.Shared.{none_is_90}
use Rattle.punnetcrest.specs.Powering.{seen_in, stepped_in_numbers, stepped_from, stepped}

module _ (state : ℕ) (seen : List ℕ) where
  pub none_given : stepped state seen None ≡ stepped state seen (Some 90)
  none_given = go (state_numbered state)
    where
      go : (from : Option State) → stepped_from from state seen None ≡ stepped_from from state seen (Some 90)
      go (Some from) = ap stepped_in_numbers (none_is_90 (seen_in seen None) from)
      go None = refl
