-- Each contract of the crate allows one result and no other. Assumes nothing.
use mathlib.Core.Path.{◌≡◌, refl, sym, ◌∙◌}
use mathlib.Core.Bool.{Bool, ◌||◌}
use Prim.Native.Nat.{ℕ, ◌*◌, ◌%◌, ◌^◌, ◌<◌}
use seplogic.Ra.Ura.{Ura}
use base.Logic.{SProp}
use base.Stored.{coded_ℕ, coded_bool}
use prog.Memory.{Memory}
use prog.Routine.{Routine}
use types.Logic.{Logic}
use contract.Monad.{Fun, fact}
use denote.Triple.Clauses.{AtExit}
use lib.Bits.{bit_or}
use lib.Dec.{eqb}
use Rattle.only.specs.Only.{Only, only_this}
use Rattle.masks.specs.Bit.{width, bit, meeting}
use Rattle.masks.proofs.Bits.{bit_or_law, bit_with}
use Rattle.masks.proofs.Told.{same_bits}
use Rattle.masks.specs.contracts.has as has
use Rattle.masks.specs.contracts.either as either
use Rattle.masks.specs.contracts.with as with
use Rattle.masks.specs.contracts.meet as meet

-- a clause that states each bit of a mask, one of which is m
pub one_mask : {M : Type 1} (𝓤 : Ura M) (clause : ℕ → SProp 𝓤) (bits : ℕ → Bool) (m : ℕ) → ((k : ℕ) → bit m k ≡ bits k)
    → ((r : ℕ) → clause r ≡ fact 𝓤 ((k : ℕ) → bit r k ≡ bits k)) → Only 𝓤 clause
one_mask 𝓤 clause bits m there says =
    record {
      coded = coded_ℕ;
      outcome = m;
      Says = λ r. (k : ℕ) → bit r k ≡ bits k;
      says = says;
      there = there;
      alone = λ r e. same_bits r m (λ k. e k ∙ sym (there k));
    }

module _ {M : Type 1} {𝓤 : Ura M} (𝓛 : Logic 𝓤) (mem : Memory → SProp 𝓤) (run : Routine → Fun 𝓤) where
  pub one_has : (m k : ℕ) (e : AtExit has.ended tt) → Only 𝓤 (λ r. (has.clauses 𝓛 mem run tt (m, (k, tt))).ensures tt r e)
  one_has m k e = only_this 𝓤 _ coded_bool (bit m k) (λ r. refl)

  pub one_meet : (a b : ℕ) (e : AtExit meet.ended tt) → Only 𝓤 (λ r. (meet.clauses 𝓛 mem run tt (a, (b, tt))).ensures tt r e)
  one_meet a b e = only_this 𝓤 _ coded_bool (meeting a b) (λ r. refl)

  pub one_either : (a b : ℕ) (e : AtExit either.ended tt) → Only 𝓤 (λ r. (either.clauses 𝓛 mem run tt (a, (b, tt))).ensures tt r e)
  one_either a b e = one_mask 𝓤 _ (λ k. bit a k || bit b k) (bit_or a b) (bit_or_law a b) (λ r. refl)

  -- where its `requires` holds
  pub one_with : (m k : ℕ) → k < width → (e : AtExit with.ended tt) → Only 𝓤 (λ r. (with.clauses 𝓛 mem run tt (m, (k, tt))).ensures tt r e)
  one_with m k l e = one_mask 𝓤 _ (λ j. bit m j || eqb j k) (bit_or m (1 * 2 ^ k % 2 ^ 64)) (λ j. bit_with m k j l) (λ r. refl)
