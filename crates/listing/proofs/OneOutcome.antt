-- The contract of `list` allows one outcome and no other: an answer, with what stands in the room at exit. Assumes nothing.
use mathlib.Core.Path.{refl}
use mathlib.Core.List.{List}
use Prim.Native.Nat.{ℕ}
use seplogic.Ra.Ura.{Ura}
use base.Logic.{SProp}
use base.Stored.{coded_ℕ, coded×, coded_list}
use Rattle.std.specs.Prelude.{Result}
use Rattle.std.specs.Coded.{coded_result}
use prog.Memory.{Memory}
use prog.Routine.{Routine}
use types.Logic.{Logic}
use contract.Lifetimes.{Lfts}
use contract.Monad.{Fun}
use denote.Bor.{Bor}
use denote.Ref.{MutBor, at_last}
use Rattle.only.specs.Only.{Only, only_this}
use Rattle.signal_lines.specs.declared.figures.Figures.{Figures}
use Rattle.listing.specs.declared.Listed.{Listed}
use Rattle.listing.specs.declared.ListRefusal.{ListRefusal}
use Rattle.listing.specs.Listing.{listing}
use Rattle.listing.specs.contracts.Listed as the-listed
use Rattle.listing.specs.contracts.ListRefusal as the-refusal
use Rattle.listing.specs.contracts.list as list

module _ {M : Type 1} {𝓤 : Ura M} (𝓛 : Logic 𝓤) (mem : Memory → SProp 𝓤) (run : Routine → Fun 𝓤) (κs : Lfts 3) where
  pub one_list : (book text : Bor (List ℕ)) (out : MutBor (List ℕ)) (figures : Figures)
      → Only 𝓤 (λ (x : Result Listed ListRefusal × List ℕ). (list.clauses 𝓛 mem run κs (book, (text, (out, (figures, tt))))).ensures tt x.0 (book, (text, (at_last out x.1, (figures, tt)))))
  one_list book text out figures = only_this 𝓤 _ (coded× (coded_result (the-listed.the_row).coded (the-refusal.the_row).coded) (coded_list coded_ℕ)) (listing figures book.now text.now out.now) (λ x. refl)
