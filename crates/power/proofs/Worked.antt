-- The worked precharges, each with its share, the steps that they lead to, and currents at their edges, -30 A among them. Assumes nothing.
use mathlib.Core.Path.{◌≡◌, refl}
use mathlib.Core.Bool.{true, false}
use mathlib.Core.List.{[], ◌∷◌, map}
use Prim.Native.Nat.{ℕ}
use Rattle.power.specs.Observed.{precharge_complete_spec, under10_a}
use Rattle.power.specs.declared.State.TheVariants.{Precharge}
use Rattle.power.specs.Pictures.{picture}
use Rattle.power.specs.Rules.{rule3, rule4, step_else, next_state_spec}
use Rattle.power.specs.Refusals.{step_of}
use Rattle.power.specs.Precharges.{Precharging, precharges, closing_with, closings}

pub all_precharges : map (λ (w : Precharging). precharge_complete_spec w.inside w.outside w.share) precharges ≡ map (λ (w : Precharging). w.complete) precharges
unfolding precharges precharge_complete_spec
all_precharges = refl

pub all_closings : map (λ (w : Precharging). step_of Precharge (closing_with w)) precharges ≡ closings
unfolding precharges closings step_of next_state_spec step_else rule3 rule4 picture precharge_complete_spec
all_closings = refl

-- -30 A, -10 A, -9.9 A, 0 A, 9.9 A, 10 A, 30 A
pub currents : map (λ (count : ℕ). under10_a (record { 0 = count })) (19700 ∷ 19900 ∷ 19901 ∷ 20000 ∷ 20099 ∷ 20100 ∷ 20300 ∷ []) ≡ false ∷ false ∷ true ∷ true ∷ true ∷ false ∷ false ∷ []
currents = refl
