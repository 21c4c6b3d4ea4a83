-- The contract of each public function allows one outcome and no other. Assumes nothing.
use mathlib.Core.Path.{refl}
use mathlib.Core.List.{List}
use Prim.Native.Nat.{ℕ}
use seplogic.Ra.Ura.{Ura}
use base.Logic.{SProp}
use base.Stored.{coded_ℕ, coded_list}
use prog.Memory.{Memory}
use prog.Routine.{Routine}
use types.Logic.{Logic}
use contract.Lifetimes.{Lfts}
use contract.Monad.{Fun}
use denote.Ref.{Bor}
use denote.Triple.Clauses.{AtExit}
use Rattle.std.specs.Coded.{coded_option}
use Rattle.only.specs.Only.{Only, only_this}
use Rattle.only.specs.Outcomes.{OneResult, result_is}
use lib.ListN.{get_or}
use Rattle.rows.specs.Rows.{rows}
use Rattle.rows.specs.Widths.{last_starts_of}
use Rattle.catalogue.specs.declared.Raw.{Raw}
use Rattle.catalogue.specs.Find.{bits_of_spec}
use Rattle.catalogue.specs.Class.{class_of_spec, no_class_number}
use Rattle.catalogue.specs.Cut.{cut_of_spec}
use Rattle.catalogue.specs.Places.{Placed, surpluses, bounds}
use Rattle.catalogue.proofs.Placed.{found_place, one_place}
use Rattle.catalogue.specs.contracts.Class as the_class
use Rattle.catalogue.specs.contracts.NoClass as the-no-class
use Rattle.std.specs.Coded.{coded_result}
use Rattle.catalogue.specs.contracts.Cut as the-cut
use Rattle.catalogue.specs.contracts.by_shape.class_of as class_of
use Rattle.catalogue.specs.contracts.by_shape.cut_of as cut_of
use Rattle.catalogue.specs.contracts.places.place_of as place_of
use Rattle.catalogue.specs.contracts.places.surpluses as surpluses-fn
use Rattle.catalogue.specs.contracts.places.bounds as bounds-fn
use Rattle.catalogue.specs.contracts.widths.bits_at as bits_at
use Rattle.catalogue.specs.contracts.starts.SignalStarts.place_of as starts-place-of
use Rattle.catalogue.specs.contracts.starts.SignalStarts.at as starts-at
use Rattle.catalogue.specs.contracts.widths.Widths.bits as widths-bits
use Rattle.catalogue.specs.contracts.widths.Widths.new as widths-new
use Rattle.catalogue.specs.contracts.starts.SignalStarts.new as starts-new
use Rattle.catalogue.specs.contracts.widths.bits_of as bits_of
use Rattle.catalogue.specs.contracts.U32FromNoClass.from as number-fn

module _ {M : Type 1} {𝓤 : Ura M} (𝓛 : Logic 𝓤) (mem : Memory → SProp 𝓤) (run : Routine → Fun 𝓤) where
  pub one_class_of : (number : ℕ) (raw : Raw) (e : AtExit class_of.ended tt) → Only 𝓤 (λ r. (class_of.clauses 𝓛 mem run tt (number, (raw, tt))).ensures tt r e)
  one_class_of number raw e = only_this 𝓤 _ (coded_result (the_class.the_row).coded (the-no-class.the_row).coded) (class_of_spec number raw) (λ r. refl)

  pub one_cut_of : (number window : ℕ) (e : AtExit cut_of.ended tt) → Only 𝓤 (λ r. (cut_of.clauses 𝓛 mem run tt (number, (window, tt))).ensures tt r e)
  one_cut_of number window e = only_this 𝓤 _ (the-cut.the_row).coded (cut_of_spec number window) (λ r. refl)

  pub one_bits_of : (number : ℕ) (e : AtExit bits_of.ended tt) → Only 𝓤 (λ r. (bits_of.clauses 𝓛 mem run tt (number, tt)).ensures tt r e)
  one_bits_of number e = only_this 𝓤 _ coded_ℕ (bits_of_spec number) (λ r. refl)

  pub one_bits_at : (κs : Lfts 3) (number : ℕ) (widths above ends : Bor (List ℕ)) (e : AtExit bits_at.ended κs)
      → Only 𝓤 (λ r. (bits_at.clauses 𝓛 mem run κs (number, (widths, (above, (ends, tt))))).ensures tt r e)
  one_bits_at κs number widths above ends e = only_this 𝓤 _ coded_ℕ (bits_of_spec number) (λ r. refl)

  -- by the place

  pub one_surpluses : (e : AtExit surpluses-fn.ended tt) → Only 𝓤 (λ r. (surpluses-fn.clauses 𝓛 mem run tt tt).ensures tt r e)
  one_surpluses e = only_this 𝓤 _ (coded_list coded_ℕ) surpluses (λ r. refl)

  pub one_bounds : (e : AtExit bounds-fn.ended tt) → Only 𝓤 (λ r. (bounds-fn.clauses 𝓛 mem run tt tt).ensures tt r e)
  one_bounds e = only_this 𝓤 _ (coded_list coded_ℕ) bounds (λ r. refl)

  pub one_place_of : (κs : Lfts 2) (number : ℕ) (above ends : Bor (List ℕ)) (e : AtExit place_of.ended κs)
      → Only 𝓤 (λ r. (place_of.clauses 𝓛 mem run κs (number, (above, (ends, tt)))).ensures tt r e)
  one_place_of κs number above ends e =
      let p = found_place number in
      record {
        coded = coded_option coded_ℕ;
        outcome = p.0;
        Says = Placed number;
        says = λ r. refl;
        there = p.1;
        alone = λ r h. one_place number r p.0 h p.1;
      }

-- the number of a refusal
module _ (M : Type 1) where
  pub one_number : OneResult M number-fn.ended (λ _. number-fn.clauses)
  one_number = result_is (λ c. no_class_number c.arguments.0) refl

-- by the columns, which are held
module _ (M : Type 1) where
  pub one_new : OneResult M widths-new.ended (λ _. widths-new.clauses)
  one_new = result_is (λ c. tt) refl

  pub one_bits : OneResult M widths-bits.ended (λ _. widths-bits.clauses)
  one_bits = result_is (λ c. bits_of_spec c.arguments.1.0) refl

  pub one_new_starts : OneResult M starts-new.ended (λ _. starts-new.clauses)
  one_new_starts = result_is (λ c. tt) refl

  pub one_at : OneResult M starts-at.ended (λ _. starts-at.clauses)
  one_at = result_is (λ c. get_or (last_starts_of rows) c.arguments.1.0 0) refl

module _ {M : Type 1} {𝓤 : Ura M} (𝓛 : Logic 𝓤) (mem : Memory → SProp 𝓤) (run : Routine → Fun 𝓤) where
  pub one_starts_place_of : (κs : Lfts 1) (starts : Bor Unit) (number : ℕ) (e : AtExit starts-place-of.ended κs)
      → Only 𝓤 (λ r. (starts-place-of.clauses 𝓛 mem run κs (starts, (number, tt))).ensures tt r e)
  one_starts_place_of κs starts number e =
      let p = found_place number in
      record {
        coded = coded_option coded_ℕ;
        outcome = p.0;
        Says = Placed number;
        says = λ r. refl;
        there = p.1;
        alone = λ r h. one_place number r p.0 h p.1;
      }
