-- The contract of `send` allows one outcome and no other: the next entry, with the room at exit. Assumes nothing.
use mathlib.Core.Path.{refl}
use mathlib.Core.List.{List}
use Prim.Native.Nat.{ℕ, ◌+◌}
use seplogic.Ra.Ura.{Ura}
use base.Logic.{SProp}
use base.Stored.{coded_ℕ, coded×, coded_list}
use prog.Memory.{Memory}
use prog.Routine.{Routine}
use types.Logic.{Logic}
use contract.Lifetimes.{Lfts}
use contract.Monad.{Fun}
use denote.Bor.{Bor}
use denote.Ref.{MutBor, at_last}
use lib.ListN.{length}
use lib.Seq.{sets}
use Rattle.only.specs.Only.{Only}
use Rattle.sending.specs.Writing.{Written, spread_in}
use Rattle.sending.specs.contracts.send as send

module _ {M : Type 1} {𝓤 : Ura M} (𝓛 : Logic 𝓤) (mem : Memory → SProp 𝓤) (run : Routine → Fun 𝓤) (κs : Lfts 2) where
  pub one_send : (book : Bor (List ℕ)) (place : ℕ) (room : MutBor (List ℕ)) (at : ℕ)
      → Only 𝓤 (λ (x : ℕ × List ℕ). (send.clauses 𝓛 mem run κs (book, (place, (room, (at, tt))))).ensures tt x.0 (book, (place, (at_last room x.1, (at, tt)))))
  one_send book place room at =
      let s = spread_in book.now place in
      record {
        coded = coded× coded_ℕ (coded_list coded_ℕ);
        outcome = (at + length s, sets room.now at s);
        Says = λ x. Written s room.now at x.1 x.0;
        says = λ x. refl;
        there = record { ends = refl; is = refl };
        alone = λ x w i. (w.ends i, w.is i);
      }
