-- Each public function's contract allows one outcome and no other. Of a slice that is returned the outcome is what it holds: where it
-- points is no part of a contract. Assumes nothing.
use mathlib.Core.Path.{refl}
use mathlib.Core.List.{List}
use Prim.Native.Nat.{ℕ}
use lib.ListN.{take, drop}
use seplogic.Ra.Ura.{Ura}
use base.Logic.{SProp}
use base.Stored.{coded_ℕ, coded_list}
use prog.Memory.{Memory}
use prog.Routine.{Routine}
use types.Logic.{Logic}
use contract.Lifetimes.{Lfts}
use contract.Monad.{Fun}
use denote.Bor.{Bor}
use denote.Triple.Clauses.{AtExit}
use Rattle.only.specs.Only.{Only, only_this, showing}
use Rattle.parts.specs.Parts.{index_of}
use Rattle.parts.specs.contracts.find as find
use Rattle.parts.specs.contracts.part_before as part-before
use Rattle.parts.specs.contracts.part_from as part-from

module _ {M : Type 1} {𝓤 : Ura M} (𝓛 : Logic 𝓤) (mem : Memory → SProp 𝓤) (run : Routine → Fun 𝓤) (κs : Lfts 1) (s : Bor (List ℕ)) where
  pub one_find : (b : ℕ) (e : AtExit find.ended κs) → Only 𝓤 (λ r. (find.clauses 𝓛 mem run κs (s, (b, tt))).ensures tt r e)
  one_find b e = only_this 𝓤 _ coded_ℕ (index_of b s.now) (λ r. refl)

  -- `part` points to what is returned
  module _ (part : Bor (List ℕ)) (k : ℕ) where
    pub one_part_before : (e : AtExit part-before.ended κs) → Only 𝓤 (λ x. (part-before.clauses 𝓛 mem run κs (s, (k, tt))).ensures tt (showing part x) e)
    one_part_before e = only_this 𝓤 _ (coded_list coded_ℕ) (take k s.now) (λ x. refl)

    pub one_part_from : (e : AtExit part-from.ended κs) → Only 𝓤 (λ x. (part-from.clauses 𝓛 mem run κs (s, (k, tt))).ensures tt (showing part x) e)
    one_part_from e = only_this 𝓤 _ (coded_list coded_ℕ) (drop k s.now) (λ x. refl)
