-- `State::try_from` meets its contract: each arm has its number, and what is left is past the last state. Assumes nothing.
-- what `_` knows where the other arms are 0, 1, .. n - 1: the number is n or more
use mathlib.Core.Path.{◌≡◌, refl, sym}
use Prim.Native.Nat.{ℕ, zero, suc, ◌≤◌}
use native.Mathlib.Omega.{arith}
use lib.Arith.{lt_of_le-ne}
use lib.ListN.{get_or-eq_default}
use Rattle.std.specs.Prelude.{None}
use Rattle.power.specs.States.{in_order_spec, state_numbered}
use Rattle.power.proofs.StateTryFromU32.try_from.Goals as goal

abbrev Others : ℕ → ℕ → Type 0
Others zero x = Unit
Others (suc n) x = Others n x × (x ≡ n → ⊥)

beyond : (n x : ℕ) → Others n x → n ≤ x
beyond zero x r = omega arith
beyond (suc n) x r = lt_of_le-ne (beyond n x r.0) (λ e. r.1 (sym e))

pub returns-in_default : goal.returns-in_default
unfolding state_numbered
returns-in_default c = rw (get_or-eq_default in_order_spec None (beyond 7 c.args.n c.in_default.in_default-own.rest)) refl

pub returns-in-0 : goal.returns-in-0
unfolding state_numbered
returns-in-0 c = cc

pub returns-in-1 : goal.returns-in-1
unfolding state_numbered
returns-in-1 c = cc

pub returns-in-2 : goal.returns-in-2
unfolding state_numbered
returns-in-2 c = cc

pub returns-in-3 : goal.returns-in-3
unfolding state_numbered
returns-in-3 c = cc

pub returns-in-4 : goal.returns-in-4
unfolding state_numbered
returns-in-4 c = cc

pub returns-in-5 : goal.returns-in-5
unfolding state_numbered
returns-in-5 c = cc

pub returns-in-6 : goal.returns-in-6
unfolding state_numbered
returns-in-6 c = cc
