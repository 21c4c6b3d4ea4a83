-- The contract of each public function allows one outcome and no other; of `checksum` it is also said that it is at most 7.
-- Assumes nothing.
use mathlib.Core.Path.{◌≡◌, refl}
use mathlib.Core.List.{List}
use Prim.Native.Nat.{ℕ, ◌<◌}
use native.Mathlib.Omega.{arith}
use seplogic.Ra.Ura.{Ura}
use base.Logic.{SProp}
use base.Stored.{coded_ℕ, coded_list}
use prog.Memory.{Memory}
use prog.Routine.{Routine}
use types.Logic.{Logic}
use contract.Lifetimes.{Lfts}
use contract.Monad.{Fun}
use denote.Bor.{Bor}
use denote.Ref.{MutBor, at_last}
use denote.Triple.Clauses.{AtExit}
use Rattle.only.specs.Only.{Only, only_this}
use Rattle.bits.specs.Checksum.{checksum_of}
use Rattle.bits.specs.Word.{word_of, bytes_of, field_of, placed}
use Rattle.bits.specs.contracts.load as load
use Rattle.bits.specs.contracts.store as store
use Rattle.bits.specs.contracts.window as window
use Rattle.bits.specs.contracts.take as take
use Rattle.bits.specs.contracts.place as place
use Rattle.bits.specs.contracts.checksum as checksum

module _ {M : Type 1} {𝓤 : Ura M} (𝓛 : Logic 𝓤) (mem : Memory → SProp 𝓤) (run : Routine → Fun 𝓤) where
  pub one_load : (κs : Lfts 1) (frame : Bor (List ℕ)) (e : AtExit load.ended κs) → Only 𝓤 (λ r. (load.clauses 𝓛 mem run κs (frame, tt)).ensures tt r e)
  one_load κs frame e = only_this 𝓤 _ coded_ℕ (word_of frame.now) (λ r. refl)

  -- what stands in the frame at exit
  pub one_store : (κs : Lfts 1) (word : ℕ) (frame : MutBor (List ℕ)) → Only 𝓤 (λ (x : List ℕ). (store.clauses 𝓛 mem run κs (word, (frame, tt))).ensures tt tt (word, (at_last frame x, tt)))
  one_store κs word frame = only_this 𝓤 _ (coded_list coded_ℕ) (bytes_of word) (λ x. refl)

  pub one_window : (word start : ℕ) (e : AtExit window.ended tt) → Only 𝓤 (λ r. (window.clauses 𝓛 mem run tt (word, (start, tt))).ensures tt r e)
  one_window word start e = only_this 𝓤 _ coded_ℕ (field_of word start 32) (λ r. refl)

  pub one_take : (word start bits : ℕ) (e : AtExit take.ended tt) → Only 𝓤 (λ r. (take.clauses 𝓛 mem run tt (word, (start, (bits, tt)))).ensures tt r e)
  one_take word start bits e = only_this 𝓤 _ coded_ℕ (field_of word start bits) (λ r. refl)

  pub one_place : (word start bits count : ℕ) (e : AtExit place.ended tt) → Only 𝓤 (λ r. (place.clauses 𝓛 mem run tt (word, (start, (bits, (count, tt))))).ensures tt r e)
  one_place word start bits count e = only_this 𝓤 _ coded_ℕ (placed word start bits count) (λ r. refl)

  pub one_checksum : (identifier word : ℕ) (e : AtExit checksum.ended tt) → Only 𝓤 (λ r. (checksum.clauses 𝓛 mem run tt (identifier, (word, tt))).ensures tt r e)
  one_checksum identifier word e =
      record {
        coded = coded_ℕ;
        outcome = checksum_of identifier (bytes_of word);
        Says = λ r. (r ≡ checksum_of identifier (bytes_of word)) × (r < 8);
        says = λ r. refl;
        there = (refl, omega arith);
        alone = λ r h. h.0;
      }
