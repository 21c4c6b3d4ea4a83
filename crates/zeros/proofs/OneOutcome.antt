-- The contracts of `zero_past` and `four_zero` each allow one answer and no other. Assumes nothing.
use mathlib.Core.Path.{refl}
use mathlib.Core.Bool.{◌&&◌}
use mathlib.Core.List.{List}
use Prim.Native.Nat.{ℕ}
use seplogic.Ra.Ura.{Ura}
use base.Logic.{SProp}
use base.Stored.{coded_bool}
use prog.Memory.{Memory}
use prog.Routine.{Routine}
use types.Logic.{Logic}
use contract.Lifetimes.{Lfts}
use contract.Monad.{Fun}
use denote.Ref.{Bor}
use denote.Triple.Clauses.{AtExit}
use lib.ListN.{drop}
use Rattle.only.specs.Only.{Only, only_this}
use Rattle.zeros.specs.Zeros.{zeros}
use Rattle.zeros.specs.contracts.zero_past as zero-past
use Rattle.zeros.specs.contracts.four_zero as four-zero

module _ {M : Type 1} {𝓤 : Ura M} (𝓛 : Logic 𝓤) (mem : Memory → SProp 𝓤) (run : Routine → Fun 𝓤) where
  pub one_zero_past : (κs : Lfts 1) (column : Bor (List ℕ)) (count : ℕ) (e : AtExit zero-past.ended κs) → Only 𝓤 (λ r. (zero-past.clauses 𝓛 mem run κs (column, (count, tt))).ensures tt r e)
  one_zero_past κs column count e = only_this 𝓤 _ coded_bool (zeros (drop count column.now)) (λ r. refl)

  pub one_four_zero : (κs : Lfts 4) (one two three four : Bor (List ℕ)) (e : AtExit four-zero.ended κs) → Only 𝓤 (λ r. (four-zero.clauses 𝓛 mem run κs (one, (two, (three, (four, tt))))).ensures tt r e)
  one_four_zero κs one two three four e = only_this 𝓤 _ coded_bool ((zeros one.now && zeros two.now) && (zeros three.now && zeros four.now)) (λ r. refl)
