-- Numbers and states go together: a state's number names it again, and tells it from every other; a step's number is how many conditions are
-- met, at most six. Assumes nothing.
use mathlib.Core.Path.{◌≡◌, refl, ap}
use Prim.Native.Nat.{ℕ, zero, suc, ◌≤◌}
use native.Mathlib.Omega.{arith}
use Rattle.charging.specs.declared.ChargeState.{ChargeState}
use Rattle.charging.specs.declared.ChargeState.TheVariants.{Start, PlugSeen, SelfChecked, NoWeld, MainClosed, ChargingAllowed, ReadyToCharge, Fault}
use Rattle.charging.specs.States.{step_with_spec, charge_number}

pub named_again : (s : ChargeState) → step_with_spec (charge_number s) ≡ s
named_again Start = refl
named_again PlugSeen = refl
named_again SelfChecked = refl
named_again NoWeld = refl
named_again MainClosed = refl
named_again ChargingAllowed = refl
named_again ReadyToCharge = refl
named_again Fault = refl

pub number_tells : (a b : ChargeState) → charge_number a ≡ charge_number b → a ≡ b
number_tells a b e = cc (named_again a, named_again b, ap step_with_spec e)

-- the number of the step with so many conditions met, and of fault
pub step_number_law : (n : ℕ) → n ≤ 7 → charge_number (step_with_spec n) ≡ n
step_number_law zero h = refl
step_number_law (suc zero) h = refl
step_number_law (suc (suc zero)) h = refl
step_number_law (suc (suc (suc zero))) h = refl
step_number_law (suc (suc (suc (suc zero)))) h = refl
step_number_law (suc (suc (suc (suc (suc zero))))) h = refl
step_number_law (suc (suc (suc (suc (suc (suc zero)))))) h = refl
step_number_law (suc (suc (suc (suc (suc (suc (suc zero))))))) h = refl
step_number_law (suc (suc (suc (suc (suc (suc (suc (suc n)))))))) h = absurd (omega (arith, h))

pub few : (s : ChargeState) → charge_number s ≤ 7
few Start = omega arith
few PlugSeen = omega arith
few SelfChecked = omega arith
few NoWeld = omega arith
few MainClosed = omega arith
few ChargingAllowed = omega arith
few ReadyToCharge = omega arith
few Fault = omega arith
