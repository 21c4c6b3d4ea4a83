-- The states by number, in document 01's order. Assumes nothing.
use Rattle.std.specs.Prelude.{ℕ, Bool, List, [], ◌∷◌, eqb, get_or, Option, Some, None, Result}
use Rattle.std.specs.Option.{ok_or}
use Rattle.power.specs.declared.State.{State}
use Rattle.power.specs.declared.State.TheVariants.{Off, Rising, Precharge, Both, On, Falling, Fault}
use Rattle.power.specs.declared.NotAState.{NotAState}

abbrev pub state_number : State → ℕ
state_number Off = 0
state_number Rising = 1
state_number Precharge = 2
state_number Both = 3
state_number On = 4
state_number Falling = 5
state_number Fault = 6

abbrev pub same_state : State → State → Bool
same_state a b = eqb (state_number a) (state_number b)

-- the states in that order
abbrev pub in_order_spec : List (Option State)
in_order_spec = Some Off ∷ Some Rising ∷ Some Precharge ∷ Some Both ∷ Some On ∷ Some Falling ∷ Some Fault ∷ []

-- the state of a number, where there is one
unfoldable pub state_numbered : ℕ → Option State
state_numbered n = get_or in_order_spec n None

-- the same as a conversion answers it: the number itself, where it is no state's
abbrev pub state_or_not : ℕ → Result State NotAState
state_or_not n = ok_or (state_numbered n) (record { 0 = n })
