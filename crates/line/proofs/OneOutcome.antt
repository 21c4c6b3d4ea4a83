-- `line_at`'s contract allows one outcome and no other. Assumes nothing.
use mathlib.Core.Path.{refl}
use mathlib.Core.List.{List}
use Prim.Native.Nat.{ℕ}
use seplogic.Ra.Ura.{Ura}
use base.Logic.{SProp}
use prog.Memory.{Memory}
use prog.Routine.{Routine}
use types.Logic.{Logic}
use contract.Lifetimes.{Lfts}
use contract.Monad.{Fun}
use denote.Ref.{Bor}
use denote.Triple.Clauses.{AtExit}
use Rattle.only.specs.Only.{Only, only_this}
use Rattle.line.specs.LineAt.{line_at}
use Rattle.line.specs.contracts.ReadLine as T
use Rattle.line.specs.contracts.line_at as line_at_lem

module _ {M : Type 1} {𝓤 : Ura M} (𝓛 : Logic 𝓤) (mem : Memory → SProp 𝓤) (run : Routine → Fun 𝓤) (κs : Lfts 1) (text : Bor (List ℕ)) where
  pub one_line_at : (at : ℕ) (e : AtExit line_at_lem.ended κs) → Only 𝓤 (λ r. (line_at_lem.clauses 𝓛 mem run κs (text, (at, tt))).ensures tt r e)
  one_line_at at e = only_this 𝓤 _ (T.the_row).coded (line_at text.now at) (λ r. refl)
