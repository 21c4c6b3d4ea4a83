-- Numbers and states go together: a state's number names it again, tells it from every other, and is the number that names it. Assumes nothing.
use Rattle.std.specs.Prelude.{Option, Some, None}
use mathlib.Core.Path.{◌≡◌, refl, sym, ap}
use Prim.Native.Nat.{ℕ, zero, suc}
use Rattle.power.specs.declared.State.{State}
use Rattle.power.specs.declared.State.TheVariants.{Off, Rising, Precharge, Both, On, Falling, Fault}
use Rattle.power.specs.States.{state_number, state_numbered}

named_again : (s : State) → state_numbered (state_number s) ≡ Some s
unfolding state_numbered
named_again Off = refl
named_again Rising = refl
named_again Precharge = refl
named_again Both = refl
named_again On = refl
named_again Falling = refl
named_again Fault = refl

pub number_tells : (a b : State) → state_number a ≡ state_number b → a ≡ b
number_tells a b e = cc (named_again a, named_again b, ap state_numbered e)

abbrev number_if : Option State → ℕ
number_if (Some s) = state_number s
number_if None = 0

pub number_named : (n : ℕ) {s : State} → state_numbered n ≡ Some s → state_number s ≡ n
unfolding state_numbered
number_named zero e = sym (ap number_if e)
number_named (suc zero) e = sym (ap number_if e)
number_named (suc (suc zero)) e = sym (ap number_if e)
number_named (suc (suc (suc zero))) e = sym (ap number_if e)
number_named (suc (suc (suc (suc zero)))) e = sym (ap number_if e)
number_named (suc (suc (suc (suc (suc zero))))) e = sym (ap number_if e)
number_named (suc (suc (suc (suc (suc (suc zero)))))) e = sym (ap number_if e)
number_named (suc (suc (suc (suc (suc (suc (suc n))))))) e = cc
