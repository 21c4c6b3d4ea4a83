-- Each public function's contract allows one outcome and no other; that of `take_lines` is what came of the lines, with the words at
-- exit. Assumes nothing.
use mathlib.Core.Path.{refl}
use mathlib.Core.List.{List}
use Prim.Native.Nat.{ℕ}
use seplogic.Ra.Ura.{Ura}
use base.Logic.{SProp}
use base.Stored.{coded_ℕ, coded_unit, coded×, coded_list}
use prog.Memory.{Memory}
use prog.Routine.{Routine}
use types.Logic.{Logic}
use contract.Lifetimes.{Lfts}
use contract.Monad.{Fun}
use denote.Bor.{Bor}
use denote.Ref.{MutBor, at_last}
use denote.Triple.Clauses.{AtExit}
use lib.ListN.{get_or}
use Rattle.only.specs.Only.{Only, only_this}
use Rattle.reading.specs.Reading.{meanings}
use Rattle.reading.specs.Taken.{r_lines_from}
use Rattle.std.specs.Prelude.{Result}
use Rattle.std.specs.Coded.{coded_result}
use Rattle.answers.specs.declared.Refused.{Refused}
use Rattle.taking.specs.Taking.{Came}
use Rattle.taking.proofs.Once.{came_there, came_once}
use Rattle.answers.specs.contracts.Refused as the-refused
use Rattle.taking.specs.contracts.take_lines as take-lines
use Rattle.taking.specs.contracts.route_line as route-line

module _ {M : Type 1} {𝓤 : Ura M} (𝓛 : Logic 𝓤) (mem : Memory → SProp 𝓤) (run : Routine → Fun 𝓤) (κs : Lfts 2) (text : Bor (List ℕ)) (book : MutBor (List ℕ)) where
  pub one_take_lines : Only 𝓤 (λ (x : Result Unit Refused × List ℕ). (take-lines.clauses 𝓛 mem run κs (text, (book, tt))).ensures tt x.0 (text, (at_last book x.1, tt)))
  one_take_lines =
      let here = came_there text.now in
      record {
        coded = coded× (coded_result coded_unit (the-refused.the_row).coded) (coded_list coded_ℕ);
        outcome = here.0;
        Says = λ x. Came text.now x.0 x.1;
        says = λ x. refl;
        there = here.1;
        alone = λ x c. let e = came_once text.now x.0 here.0.0 x.1 here.0.1 c here.1 in λ i. (e.0 i, e.1 i);
      }

module _ {M : Type 1} {𝓤 : Ura M} (𝓛 : Logic 𝓤) (mem : Memory → SProp 𝓤) (run : Routine → Fun 𝓤) (κs : Lfts 1) (text : Bor (List ℕ)) where
  pub one_route_line : (route : ℕ) (e : AtExit route-line.ended κs) → Only 𝓤 (λ r. (route-line.clauses 𝓛 mem run κs (text, (route, tt))).ensures tt r e)
  one_route_line route e = only_this 𝓤 _ coded_ℕ (get_or (r_lines_from 1 (meanings text.now)) route 0) (λ r. refl)
