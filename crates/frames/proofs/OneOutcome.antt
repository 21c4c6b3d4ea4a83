-- The contracts of `read`, `pack` and `find_message` allow one outcome and no other: an answer, with what stands in the lent slices
-- at exit. Assumes nothing.
use mathlib.Core.Path.{refl}
use mathlib.Core.List.{List}
use Prim.Native.Nat.{ℕ}
use seplogic.Ra.Ura.{Ura}
use base.Logic.{SProp}
use base.Stored.{coded_ℕ, coded_unit, coded×, coded_list}
use Rattle.std.specs.Prelude.{Option, Result}
use Rattle.std.specs.Coded.{coded_option, coded_result}
use prog.Memory.{Memory}
use prog.Routine.{Routine}
use types.Logic.{Logic}
use contract.Lifetimes.{Lfts}
use contract.Monad.{Fun}
use denote.Bor.{Bor}
use denote.Ref.{MutBor, at_last}
use lib.IntN.{ℤ}
use Rattle.only.specs.Only.{Only, only_this}
use Rattle.framing.specs.declared.ReadRefusal.{ReadRefusal}
use Rattle.framing.specs.declared.PackRefusal.{PackRefusal}
use Rattle.framing.specs.Reading.{Slices, reading}
use Rattle.framing.specs.Packing.{packing}
use Rattle.framing.proofs.CodedSlices.{coded_slices}
use Rattle.framing.specs.contracts.ReadRefusal as the-read-refusal
use Rattle.framing.specs.contracts.PackRefusal as the-pack-refusal
use Rattle.frames.specs.Lookup.{Finds}
use Rattle.frames.specs.declared.book.TestedBook.{TestedBook}
use Rattle.frames.proofs.OneFound.{there, alone}
use Rattle.frames.specs.contracts.lookup.find_message as find-message
use Rattle.frames.specs.contracts.read as read
use Rattle.frames.specs.contracts.pack as pack

module _ {M : Type 1} {𝓤 : Ura M} (𝓛 : Logic 𝓤) (mem : Memory → SProp 𝓤) (run : Routine → Fun 𝓤) where
  pub one_read : (κs : Lfts 5) (book : Bor (List ℕ)) (identifier : ℕ) (frame : Bor (List ℕ)) (raws classes : MutBor (List ℕ)) (thousandths : MutBor (List ℤ))
      → Only 𝓤 (λ (x : Result ℕ ReadRefusal × Slices). (read.clauses 𝓛 mem run κs (book, (identifier, (frame, (raws, (classes, (thousandths, tt))))))).ensures tt x.0
      (book, (identifier, (frame, (at_last raws x.1.raws, (at_last classes x.1.classes, (at_last thousandths x.1.thousandths, tt)))))))
  one_read κs book identifier frame raws classes thousandths =
      only_this 𝓤 _ (coded× (coded_result coded_ℕ (the-read-refusal.the_row).coded) coded_slices)
      (reading book.now identifier frame.now (record { raws = raws.now; classes = classes.now; thousandths = thousandths.now })) (λ x. refl)

  pub one_pack : (κs : Lfts 3) (book : Bor (List ℕ)) (identifier : ℕ) (values : Bor (List ℕ)) (frame : MutBor (List ℕ))
      → Only 𝓤 (λ (x : Result (Unit {0}) PackRefusal × List ℕ). (pack.clauses 𝓛 mem run κs (book, (identifier, (values, (frame, tt))))).ensures tt x.0 (book, (identifier, (values, (at_last frame x.1, tt)))))
  one_pack κs book identifier values frame =
      only_this 𝓤 _ (coded× (coded_result coded_unit (the-pack-refusal.the_row).coded) (coded_list coded_ℕ)) (packing book.now identifier values.now frame.now) (λ x. refl)

  -- of a tested book
  pub one_find_message : (κs : Lfts 2) (book : Bor TestedBook) (identifier : ℕ)
      → Only 𝓤 (λ (f : Option (ℕ × ℕ)). (find-message.clauses 𝓛 mem run κs (book, (identifier, tt))).ensures tt f (book, (identifier, tt)))
  one_find_message κs book identifier =
      let here = there book.now.words.now book.now.taken identifier in
      record {
        coded = coded_option (coded× coded_ℕ coded_ℕ);
        outcome = here.found;
        Says = Finds book.now.words.now identifier;
        says = λ f. refl;
        there = here.finds;
        alone = λ f p. alone book.now.words.now identifier f here.found p here.finds;
      }
