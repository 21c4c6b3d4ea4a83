-- `charging::step_with` meets its contract: each arm has its step, and what is left is past the last one. Assumes nothing.
-- what `_` knows where the other arms are 0, 1, .. n - 1: the number is n or more
use mathlib.Core.Path.{◌≡◌, sym}
use Prim.Native.Nat.{ℕ, zero, suc, ◌≤◌}
use native.Mathlib.Omega.{arith}
use lib.Arith.{lt_of_le-ne}
use lib.ListN.{get_or-eq_default}
use Rattle.charging.specs.declared.ChargeState.TheVariants.{Fault}
use Rattle.charging.specs.States.{charge_steps}
use Rattle.charging.proofs.step_with.Goals as goal

abbrev Others : ℕ → ℕ → Type 0
Others zero x = Unit
Others (suc n) x = Others n x × (x ≡ n → ⊥)

beyond : (n x : ℕ) → Others n x → n ≤ x
beyond zero x r = omega arith
beyond (suc n) x r = lt_of_le-ne (beyond n x r.0) (λ e. r.1 (sym e))

pub returns-in_default : goal.returns-in_default
returns-in_default c = sym (get_or-eq_default charge_steps Fault (beyond 7 c.args.n c.in_default.in_default-own.rest))
