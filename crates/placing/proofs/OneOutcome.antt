-- Each contract allows one outcome and no other: a result, and of `well_placed` the stamps with it. Assumes nothing.
use mathlib.Core.Path.{◌≡◌, refl, sym, ◌∙◌}
use Prim.Native.Nat.{ℕ}
use seplogic.Ra.Ura.{Ura}
use base.Logic.{SProp}
use base.Stored.{coded_ℕ, coded_bool, coded×, coded_list}
use prog.Memory.{Memory}
use prog.Routine.{Routine}
use types.Logic.{Logic}
use contract.Monad.{Fun}
use denote.Triple.Clauses.{AtExit}
use Rattle.only.specs.Only.{Only}
use Rattle.only.specs.Outcomes.{OneResult, OneOutcome, result_is, outcome_is}
use Rattle.books.specs.Belonging.{in_run}
use Rattle.books.specs.Book.{placement}
use Rattle.books.specs.Lines.{is_in, misplaced}
use Rattle.books.specs.Words.{side_by_side}
use Rattle.masks.proofs.Told.{same_bits}
use Rattle.masks.proofs.OneOutcome.{one_mask}
use Rattle.placing.specs.declared.Filled.{Filled}
use Rattle.placing.specs.Placing.{FrameRoom}
use Rattle.placing.specs.Filling.{FilledMore}
use Rattle.placing.specs.Stamps.{stamped_test}
use Rattle.placing.proofs.Runs.{run_of, run_bits}
use Rattle.placing.proofs.Filling.{more_there}
use Rattle.placing.specs.contracts.Filled as the-filled
use Rattle.placing.specs.contracts.run as run-fn
use Rattle.placing.specs.contracts.Filled.new as new
use Rattle.placing.specs.contracts.Filled.with_signal as with-signal
use Rattle.placing.specs.contracts.is_misplaced as is-misplaced
use Rattle.placing.specs.contracts.Filled.is_repeated as is-repeated
use Rattle.placing.specs.contracts.well_placed as well_placed

-- one mask has the bits and marks of a signal more
more_once : (f : Filled) (number start bits : ℕ) (g h : Filled) → FilledMore f number start bits g → FilledMore f number start bits h → g ≡ h
more_once f number start bits g h a b =
    let p = same_bits g.bits h.bits (λ k. a.bits_more k ∙ sym (b.bits_more k)) in
    let q = same_bits g.marks h.marks (λ j. a.marks_more j ∙ sym (b.marks_more j)) in
    λ i. record { bits = p i; marks = q i }

module _ {M : Type 1} {𝓤 : Ura M} (𝓛 : Logic 𝓤) (mem : Memory → SProp 𝓤) (run : Routine → Fun 𝓤) where
  -- where its `requires` holds
  pub one_run : (start bits : ℕ) → FrameRoom start bits → (e : AtExit run-fn.ended tt) → Only 𝓤 (λ r. (run-fn.clauses 𝓛 mem run tt (start, (bits, tt))).ensures tt r e)
  one_run start bits room e = one_mask 𝓤 _ (in_run start bits) (run_of start bits) (run_bits start bits room.to) (λ r. refl)

  pub one_new : (e : AtExit new.ended tt) → Only 𝓤 (λ r. (new.clauses 𝓛 mem run tt tt).ensures tt r e)
  one_new e =
      record {
        coded = (the-filled.the_row).coded;
        outcome = record { bits = 0; marks = 0 };
        Says = λ r. (r.bits ≡ 0) × (r.marks ≡ 0);
        says = λ r. refl;
        there = (refl, refl);
        alone = λ r h i. record { bits = h.0 i; marks = h.1 i };
      }

  -- where its `requires` holds
  pub one_with_signal : (f : Filled) (number start bits : ℕ) → FrameRoom start bits
      → (e : AtExit with-signal.ended tt) → Only 𝓤 (λ r. (with-signal.clauses 𝓛 mem run tt (f, (number, (start, (bits, tt))))).ensures tt r e)
  one_with_signal f number start bits room e =
      let more = more_there f number start bits room in
      record {
        coded = (the-filled.the_row).coded;
        outcome = more.0;
        Says = FilledMore f number start bits;
        says = λ r. refl;
        there = more.1;
        alone = λ r h. more_once f number start bits r more.0 h more.1;
      }

module _ (M : Type 1) where
  pub one_is_misplaced : OneResult M is-misplaced.ended (λ _. is-misplaced.clauses)
  one_is_misplaced = result_is (λ c. misplaced (placement c.arguments.0 c.arguments.1.0)) refl

  pub one_is_repeated : OneResult M is-repeated.ended (λ _. is-repeated.clauses)
  one_is_repeated = result_is (λ c. is_in c.arguments.1.1.0 c.arguments.1.0.now) refl

  pub one_well_placed : OneOutcome M well_placed.ended (λ _. well_placed.clauses)
  one_well_placed =
      outcome_is (coded× coded_bool (coded_list coded_ℕ)) (λ c o. (o.0, o.1.1.1.1.1.1.0)) (λ c x. (x.0, (tt, (tt, (tt, (tt, (tt, (x.1, (tt, tt)))))))))
      (λ c o. refl) (λ c x. refl)
      (λ c. stamped_test (side_by_side c.arguments.0.now c.arguments.1.0.now) c.arguments.1.1.1.1.1.1.0 c.arguments.1.1.1.1.1.0.now) refl
