-- Each call's contract allows one outcome and no other: what it returns, with everything lent to it as it leaves it. Assumes nothing.
use mathlib.Core.Path.{refl}
use Prim.Native.Nat.{ℕ}
use mathlib.Core.List.{List}
use lib.IntN.{ℤ}
use lib.Ieee.{Float}
use seplogic.Ra.Ura.{Ura}
use base.Logic.{SProp}
use base.Stored.{coded_ℕ, coded_ℤ, coded_float, coded×, coded_list}
use prog.Memory.{Memory}
use prog.Routine.{Routine}
use types.Logic.{Logic}
use contract.Lifetimes.{Lfts}
use contract.Monad.{Fun}
use denote.Bor.{Bor}
use denote.Ref.{MutBor, at_last}
use Rattle.only.specs.Only.{Only, only_this}
use Rattle.framing.proofs.CodedSlices.{coded_slices}
use Rattle.std.specs.Prelude.{Some, None}
use Rattle.punnetcrest.specs.Booking.{BookRead}
use Rattle.punnetcrest.specs.BookText.{WriteCall}
use Rattle.punnetcrest.specs.Classing.{classed}
use Rattle.punnetcrest.specs.Dashing.{dashed}
use Rattle.punnetcrest.specs.Packing.{packed}
use Rattle.punnetcrest.specs.Powering.{stepped}
use Rattle.punnetcrest.specs.Sleeping.{started, watched}
use Rattle.punnetcrest.specs.Spreading.{SpreadCall}
use Rattle.punnetcrest.specs.Summing.{faults_summed}
use Rattle.punnetcrest.specs.Unpacking.{ReadingRoom, room_lent, unpacked}
use Rattle.punnetcrest.proofs.BookNumbers.{read_outcome, read_there, read_alone}
use Rattle.punnetcrest.proofs.SpreadNumbers.{spread_outcome, spread_there, spread_alone}
use Rattle.punnetcrest.proofs.WriteNumbers.{write_outcome, write_there, write_alone}
use Rattle.punnetcrest.specs.contracts.book_text.pc_book_write as book-write
use Rattle.punnetcrest.specs.contracts.booking.pc_book_read as book_read
use Rattle.punnetcrest.specs.contracts.classing.pc_class as class-call
use Rattle.punnetcrest.specs.contracts.dashing.pc_dash as dash-call
use Rattle.punnetcrest.specs.contracts.packing.pc_frame_pack as frame-pack
use Rattle.punnetcrest.specs.contracts.powering.pc_power_step as power-step
use Rattle.punnetcrest.specs.contracts.powering.pc_power_step_by as power-step-by
use Rattle.punnetcrest.specs.contracts.sleeping.pc_sleep_start as sleep-start
use Rattle.punnetcrest.specs.contracts.sleeping.pc_sleep_watch as sleep-watch
use Rattle.punnetcrest.specs.contracts.spreading.pc_spread as spread
use Rattle.punnetcrest.specs.contracts.summing.pc_fault_sum as fault-sum
use Rattle.punnetcrest.specs.contracts.unpacking.pc_frame_read as frame-read

module _ {M : Type 1} {𝓤 : Ura M} (𝓛 : Logic 𝓤) (mem : Memory → SProp 𝓤) (run : Routine → Fun 𝓤) where
  pub one_book_read : (κs : Lfts 3) (text : Bor (List ℕ)) (book : MutBor (List ℕ)) (line : MutBor ℕ)
      → Only 𝓤 (λ (x : ℕ × (List ℕ × ℕ)). (book_read.clauses 𝓛 mem run κs (text, (book, (line, tt)))).ensures tt x.0 (text, (at_last book x.1.0, (at_last line x.1.1, tt))))
  one_book_read κs text book line =
      record {
        coded = coded× coded_ℕ (coded× (coded_list coded_ℕ) coded_ℕ);
        outcome = read_outcome text.now;
        Says = λ x. BookRead text.now x.0 x.1.0 x.1.1;
        says = λ x. refl;
        there = read_there text.now;
        alone = read_alone text.now;
      }

  pub one_book_write : (κs : Lfts 3) (book : Bor (List ℕ)) (text : MutBor (List ℕ)) (count : MutBor ℕ)
      → Only 𝓤 (λ (x : ℕ × (List ℕ × ℕ)). (book-write.clauses 𝓛 mem run κs (book, (text, (count, tt)))).ensures tt x.0 (book, (at_last text x.1.0, (at_last count x.1.1, tt))))
  one_book_write κs book text count =
      record {
        coded = coded× coded_ℕ (coded× (coded_list coded_ℕ) coded_ℕ);
        outcome = write_outcome book.now text.now count.now;
        Says = λ x. WriteCall book.now text.now count.now x.0 x.1.0 x.1.1;
        says = λ x. refl;
        there = write_there book.now text.now count.now;
        alone = write_alone book.now text.now count.now;
      }

  pub one_class : (κs : Lfts 2) (number raw : ℕ) (code : MutBor ℕ) (reading : MutBor ℤ)
      → Only 𝓤 (λ (x : ℕ × (ℕ × ℤ)). (class-call.clauses 𝓛 mem run κs (number, (raw, (code, (reading, tt))))).ensures tt x.0 (number, (raw, (at_last code x.1.0, (at_last reading x.1.1, tt)))))
  one_class κs number raw code reading = only_this 𝓤 _ (coded× coded_ℕ (coded× coded_ℕ coded_ℤ)) (classed number raw code.now reading.now) (λ x. refl)

  pub one_dash : (κs : Lfts 2) (number raw : ℕ) (code : MutBor ℕ) (reading : MutBor Float)
      → Only 𝓤 (λ (x : ℕ × (ℕ × Float)). (dash-call.clauses 𝓛 mem run κs (number, (raw, (code, (reading, tt))))).ensures tt x.0 (number, (raw, (at_last code x.1.0, (at_last reading x.1.1, tt)))))
  one_dash κs number raw code reading = only_this 𝓤 _ (coded× coded_ℕ (coded× coded_ℕ coded_float)) (dashed number raw code.now reading.now) (λ x. refl)

  pub one_fault_sum : (κs : Lfts 2) (counts : Bor (List ℕ)) (sum : MutBor (List ℕ))
      → Only 𝓤 (λ (x : ℕ × List ℕ). (fault-sum.clauses 𝓛 mem run κs (counts, (sum, tt))).ensures tt x.0 (counts, (at_last sum x.1, tt)))
  one_fault_sum κs counts sum = only_this 𝓤 _ (coded× coded_ℕ (coded_list coded_ℕ)) (faults_summed counts.now sum.now) (λ x. refl)

  pub one_frame_read : (κs : Lfts 6) (book : Bor (List ℕ)) (identifier : ℕ) (frame : Bor (List ℕ)) (raws classes : MutBor (List ℕ)) (thousandths : MutBor (List ℤ)) (count : MutBor ℕ)
      → Only 𝓤 (λ (x : ℕ × ReadingRoom). (frame-read.clauses 𝓛 mem run κs (book, (identifier, (frame, (raws, (classes, (thousandths, (count, tt)))))))).ensures tt x.0
      (book, (identifier, (frame, (at_last raws x.1.0.raws, (at_last classes x.1.0.classes, (at_last thousandths x.1.0.thousandths, (at_last count x.1.1, tt))))))))
  one_frame_read κs book identifier frame raws classes thousandths count =
      only_this 𝓤 _ (coded× coded_ℕ (coded× coded_slices coded_ℕ))
      (unpacked book.now identifier frame.now (room_lent raws.now classes.now thousandths.now count.now)) (λ x. refl)

  pub one_frame_pack : (κs : Lfts 3) (book : Bor (List ℕ)) (identifier : ℕ) (values : Bor (List ℕ)) (frame : MutBor (List ℕ))
      → Only 𝓤 (λ (x : ℕ × List ℕ). (frame-pack.clauses 𝓛 mem run κs (book, (identifier, (values, (frame, tt))))).ensures tt x.0 (book, (identifier, (values, (at_last frame x.1, tt)))))
  one_frame_pack κs book identifier values frame =
      only_this 𝓤 _ (coded× coded_ℕ (coded_list coded_ℕ)) (packed book.now identifier values.now frame.now) (λ x. refl)

  pub one_power_step : (κs : Lfts 2) (state : MutBor ℕ) (seen : Bor (List ℕ))
      → Only 𝓤 (λ (x : ℕ × ℕ). (power-step.clauses 𝓛 mem run κs (state, (seen, tt))).ensures tt x.0 (at_last state x.1, (seen, tt)))
  one_power_step κs state seen = only_this 𝓤 _ (coded× coded_ℕ coded_ℕ) (stepped state.now seen.now None) (λ x. refl)

  pub one_power_step_by : (κs : Lfts 2) (state : MutBor ℕ) (seen : Bor (List ℕ)) (share : ℕ)
      → Only 𝓤 (λ (x : ℕ × ℕ). (power-step-by.clauses 𝓛 mem run κs (state, (seen, (share, tt)))).ensures tt x.0 (at_last state x.1, (seen, (share, tt))))
  one_power_step_by κs state seen share = only_this 𝓤 _ (coded× coded_ℕ coded_ℕ) (stepped state.now seen.now (Some share)) (λ x. refl)

  pub one_sleep_start : (κs : Lfts 2) (last asleep : MutBor ℕ) (time : ℕ)
      → Only 𝓤 (λ (x : ℕ × (ℕ × ℕ)). (sleep-start.clauses 𝓛 mem run κs (last, (asleep, (time, tt)))).ensures tt x.0 (at_last last x.1.0, (at_last asleep x.1.1, (time, tt))))
  one_sleep_start κs last asleep time = only_this 𝓤 _ (coded× coded_ℕ (coded× coded_ℕ coded_ℕ)) (started time) (λ x. refl)

  pub one_sleep_watch : (κs : Lfts 2) (last asleep : MutBor ℕ) (time wake : ℕ)
      → Only 𝓤 (λ (x : ℕ × (ℕ × ℕ)). (sleep-watch.clauses 𝓛 mem run κs (last, (asleep, (time, (wake, tt))))).ensures tt x.0 (at_last last x.1.0, (at_last asleep x.1.1, (time, (wake, tt)))))
  one_sleep_watch κs last asleep time wake = only_this 𝓤 _ (coded× coded_ℕ (coded× coded_ℕ coded_ℕ)) (watched last.now asleep.now time wake) (λ x. refl)

  pub one_spread : (κs : Lfts 3) (book : Bor (List ℕ)) (bus identifier : ℕ) (places : MutBor (List ℕ)) (count : MutBor ℕ)
      → Only 𝓤 (λ (x : ℕ × (List ℕ × ℕ)). (spread.clauses 𝓛 mem run κs (book, (bus, (identifier, (places, (count, tt)))))).ensures tt x.0 (book, (bus, (identifier, (at_last places x.1.0, (at_last count x.1.1, tt))))))
  one_spread κs book bus identifier places count =
      record {
        coded = coded× coded_ℕ (coded× (coded_list coded_ℕ) coded_ℕ);
        outcome = spread_outcome book.now bus identifier places.now count.now;
        Says = λ x. SpreadCall book.now bus identifier places.now count.now x.0 x.1.0 x.1.1;
        says = λ x. refl;
        there = spread_there book.now bus identifier places.now count.now;
        alone = spread_alone book.now bus identifier places.now count.now;
      }
