-- The reader's contract allows one outcome and no other: one answer, and one book that is left behind. Assumes nothing.
use mathlib.Core.Path.{◌≡◌, refl}
use mathlib.Core.List.{List}
use Prim.Native.Nat.{ℕ}
use seplogic.Ra.Ura.{Ura}
use base.Logic.{SProp}
use base.Stored.{coded_ℕ, coded×, coded_list}
use prog.Memory.{Memory}
use prog.Routine.{Routine}
use types.Logic.{Logic}
use contract.Lifetimes.{Lfts}
use contract.Monad.{Fun, fact}
use denote.Bor.{Bor}
use denote.Ref.{MutBor, at_last}
use Rattle.only.specs.Only.{Only}
use Rattle.verdict.specs.declared.Verdict.{Verdict}
use Rattle.std.specs.Prelude.{Result}
use Rattle.std.specs.Coded.{coded_result}
use Rattle.answers.specs.contracts.Counts as the-counts
use Rattle.answers.specs.contracts.Refused as the-refused
use Rattle.answers.specs.declared.Counts.{Counts}
use Rattle.answers.specs.declared.Refused.{Refused}
use Rattle.answers.specs.Numbers.{said}
use Rattle.book.specs.Answered.{Answered}
use Rattle.book.proofs.Once.{there, alone}
use Rattle.book.specs.contracts.read as read
use Rattle.book.specs.contracts.answer_judged as answer-judged

-- a clause that states how a text is answered
one_answer : {M : Type 1} (𝓤 : Ura M) (clause : Result Counts Refused × List ℕ → SProp 𝓤) (text : List ℕ)
    → ((x : Result Counts Refused × List ℕ) → clause x ≡ fact 𝓤 (Answered text (said x.0) x.1)) → Only 𝓤 clause
one_answer 𝓤 clause text says =
    record {
      coded = coded× (coded_result (the-counts.the_row).coded (the-refused.the_row).coded) (coded_list coded_ℕ);
      outcome = ((there text).answer, (there text).words);
      Says = λ x. Answered text (said x.0) x.1;
      says = says;
      there = (there text).answered;
      alone = alone text;
    }

module _ {M : Type 1} {𝓤 : Ura M} (𝓛 : Logic 𝓤) (mem : Memory → SProp 𝓤) (run : Routine → Fun 𝓤) (κs : Lfts 2) (text : Bor (List ℕ)) (book : MutBor (List ℕ)) where
  pub one_read : Only 𝓤 (λ (x : Result Counts Refused × List ℕ). (read.clauses 𝓛 mem run κs (text, (book, tt))).ensures tt x.0 (text, (at_last book x.1, tt)))
  one_read = one_answer 𝓤 _ text.now (λ x. refl)

  pub one_answer_judged : (v : Verdict) → Only 𝓤 (λ (x : Result Counts Refused × List ℕ). (answer-judged.clauses 𝓛 mem run κs (text, (book, (v, tt)))).ensures tt x.0 (text, (at_last book x.1, (v, tt))))
  one_answer_judged v = one_answer 𝓤 _ text.now (λ x. refl)
