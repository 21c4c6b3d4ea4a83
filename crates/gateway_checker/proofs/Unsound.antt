-- A verdict that is not `Sound` is of a table that is not sound. Assumes nothing.
use mathlib.Core.Path.{◌≡◌, refl}
use mathlib.Core.List.{List}
use Prim.Native.Nat.{ℕ}
use Rattle.chains.specs.Chain.{IsSound}
use Rattle.verdict.specs.declared.Verdict.{Verdict}
use Rattle.verdict.specs.declared.Verdict.TheVariants as verdict
use Rattle.verdict.specs.Verdicts.{Judged}
use Rattle.verdict.proofs.Once.{loop_unsound, doubling_unsound}

pub unsound : (froms tos : List ℕ) (v : Verdict) → Judged froms tos v → (v ≡ verdict.Sound → ⊥) → IsSound froms tos → ⊥
unsound froms tos (verdict.Loop i) j other = loop_unsound froms tos i j
unsound froms tos (verdict.Doubling i) j other = doubling_unsound froms tos i j
unsound froms tos verdict.Sound j other = absurd (other refl)
