-- The contract of `spread` allows one outcome and no other: an answer, with what stands in the room at exit; and that of a refusal's
-- number one number. Assumes nothing.
use mathlib.Core.Path.{refl}
use mathlib.Core.List.{List}
use Prim.Native.Nat.{ℕ}
use seplogic.Ra.Ura.{Ura}
use base.Logic.{SProp}
use base.Stored.{coded_ℕ, coded×, coded_list}
use prog.Memory.{Memory}
use prog.Routine.{Routine}
use types.Logic.{Logic}
use contract.Lifetimes.{Lfts}
use contract.Monad.{Fun}
use denote.Bor.{Bor}
use denote.Ref.{MutBor, at_last}
use denote.Triple.Clauses.{AtExit}
use Rattle.std.specs.Coded.{coded_result}
use Rattle.only.specs.Only.{Only, only_this}
use Rattle.routes.specs.Answers.{spread_refusal_number, sent_number, place_count, SpreadAnswer}
use Rattle.routes.specs.declared.SpreadRefusal.{SpreadRefusal}
use Rattle.routes.proofs.Decided.{Sent, answered, answer_once, same_sent}
use Rattle.routes.specs.contracts.SpreadRefusal as the-refusal
use Rattle.routes.specs.contracts.spread as spread
use Rattle.routes.specs.contracts.U32FromSpreadRefusal.from as number-fn

module _ {M : Type 1} {𝓤 : Ura M} (𝓛 : Logic 𝓤) (mem : Memory → SProp 𝓤) (run : Routine → Fun 𝓤) where
  -- the number of a refusal
  pub one_number : (refusal : SpreadRefusal) (e : AtExit number-fn.ended tt) → Only 𝓤 (λ r. (number-fn.clauses 𝓛 mem run tt (refusal, tt)).ensures tt r e)
  one_number refusal e = only_this 𝓤 _ coded_ℕ (spread_refusal_number refusal) (λ r. refl)

  pub one_spread : (κs : Lfts 2) (book : Bor (List ℕ)) (bus identifier : ℕ) (room : MutBor (List ℕ))
      → Only 𝓤 (λ (x : Sent × List ℕ). (spread.clauses 𝓛 mem run κs (book, (bus, (identifier, (room, tt))))).ensures tt x.0 (book, (bus, (identifier, (at_last room x.1, tt)))))
  one_spread κs book bus identifier room =
      let there = answered book.now bus identifier room.now in
      record {
        coded = coded× (coded_result coded_ℕ (the-refusal.the_row).coded) (coded_list coded_ℕ);
        outcome = there.0;
        Says = λ x. SpreadAnswer book.now bus identifier room.now (sent_number x.0) (place_count x.0) x.1;
        says = λ x. refl;
        there = there.1;
        alone = λ x h. same_sent (answer_once book.now bus identifier room.now h there.1);
      }
