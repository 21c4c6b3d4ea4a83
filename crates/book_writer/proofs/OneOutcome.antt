-- The contract of `write` allows one outcome and no other: an answer, with what stands in the room at exit; and that of a refusal's
-- number one number. Assumes nothing.
use mathlib.Core.Path.{refl}
use mathlib.Core.List.{List}
use Prim.Native.Nat.{ℕ}
use seplogic.Ra.Ura.{Ura}
use base.Logic.{SProp}
use Rattle.std.specs.Coded.{coded_result}
use base.Stored.{coded_ℕ, coded×, coded_list}
use prog.Memory.{Memory}
use prog.Routine.{Routine}
use types.Logic.{Logic}
use contract.Lifetimes.{Lfts}
use contract.Monad.{Fun}
use denote.Bor.{Bor}
use denote.Ref.{MutBor, at_last}
use denote.Triple.Clauses.{AtExit}
use Rattle.only.specs.Only.{Only, only_this}
use Rattle.book_writer.specs.Answers.{write_refusal_number, wrote_number, byte_count, WriteAnswer}
use Rattle.std.specs.Prelude.{Result}
use Rattle.book_writer.specs.declared.WriteRefusal.{WriteRefusal}
use Rattle.book_writer.proofs.Decided.{answered, answer_once, same_wrote}
use Rattle.book_writer.specs.contracts.WriteRefusal as the-refusal
use Rattle.book_writer.specs.contracts.write as write
use Rattle.book_writer.specs.contracts.U32FromWriteRefusal.from as number-fn

module _ {M : Type 1} {𝓤 : Ura M} (𝓛 : Logic 𝓤) (mem : Memory → SProp 𝓤) (run : Routine → Fun 𝓤) where
  -- the number of a refusal
  pub one_number : (refusal : WriteRefusal) (e : AtExit number-fn.ended tt) → Only 𝓤 (λ r. (number-fn.clauses 𝓛 mem run tt (refusal, tt)).ensures tt r e)
  one_number refusal e = only_this 𝓤 _ coded_ℕ (write_refusal_number refusal) (λ r. refl)

  pub one_write : (κs : Lfts 2) (book : Bor (List ℕ)) (room : MutBor (List ℕ))
      → Only 𝓤 (λ (x : Result ℕ WriteRefusal × List ℕ). (write.clauses 𝓛 mem run κs (book, (room, tt))).ensures tt x.0 (book, (at_last room x.1, tt)))
  one_write κs book room =
      let there = answered book.now room.now in
      record {
        coded = coded× (coded_result coded_ℕ (the-refusal.the_row).coded) (coded_list coded_ℕ);
        outcome = there.0;
        Says = λ x. WriteAnswer book.now room.now (wrote_number x.0) (byte_count x.0) x.1;
        says = λ x. refl;
        there = there.1;
        alone = λ x h. same_wrote (answer_once book.now room.now h there.1);
      }
