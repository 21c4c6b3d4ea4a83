-- `rows::table::kind_of` meets its contract: each number has its kind. Assumes nothing.
use mathlib.Core.Path.{◌≡◌, refl}
use Prim.Native.Nat.{ℕ, zero, suc}
use Rattle.rows.specs.declared.MarkKind.TheVariants.{Reserved}
use Rattle.rows.specs.Kinds.{kind_numbered}
use Rattle.rows.proofs.table.kind_of.Goals as goal

-- a number that is none of those of the other arms
abbrev NoneOfFour : ℕ → Type 0
NoneOfFour n = ((((Unit × (n ≡ 0 → ⊥)) × (n ≡ 1 → ⊥)) × (n ≡ 2 → ⊥)) × (n ≡ 3 → ⊥))

last_kind : (n : ℕ) → NoneOfFour n → Reserved ≡ kind_numbered n
last_kind zero others = absurd (others.0.0.0.1 refl)
last_kind (suc zero) others = absurd (others.0.0.1 refl)
last_kind (suc (suc zero)) others = absurd (others.0.1 refl)
last_kind (suc (suc (suc zero))) others = absurd (others.1 refl)
last_kind (suc (suc (suc (suc more)))) others = refl

pub returns-in_default : goal.returns-in_default
returns-in_default c = last_kind c.args.number c.in_default.in_default-own.rest
