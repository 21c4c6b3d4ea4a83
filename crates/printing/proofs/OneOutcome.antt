-- Each public function's contract allows one outcome and no other: the place after the text, and what stands in the lent slice at exit.
-- Assumes nothing.
use mathlib.Core.Path.{◌≡◌, refl}
use mathlib.Core.List.{List, [], ◌∷◌}
use Prim.Native.Nat.{ℕ, ◌+◌, ◌≤◌}
use lib.IntN.{ℤ}
use lib.ListN.{length}
use lib.Seq.{sets}
use seplogic.Ra.Ura.{Ura}
use base.Logic.{SProp}
use base.Stored.{coded_ℕ, coded×, coded_list}
use prog.Memory.{Memory}
use prog.Routine.{Routine}
use types.Logic.{Logic}
use contract.Lifetimes.{Lfts}
use contract.Monad.{Fun, fact}
use denote.Bor.{Bor}
use denote.Ref.{MutBor, at_last}
use Rattle.only.specs.Only.{Only}
use Rattle.printing.specs.Put.{Put, PutWithin}
use Rattle.printing.specs.Decimal.{natural_text, signed_text}
use Rattle.printing.specs.contracts.bytes.put_byte as put_byte
use Rattle.printing.specs.contracts.bytes.put_bytes as put-bytes
use Rattle.printing.specs.contracts.numbers.put_natural as put-natural
use Rattle.printing.specs.contracts.numbers.put_signed as put-signed

-- a clause that states that a text was put at a place, and one that says also how long it is at most
module _ {M : Type 1} (𝓤 : Ura M) (clause : ℕ × List ℕ → SProp 𝓤) (old : List ℕ) (at : ℕ) (text : List ℕ) where
  pub one_put : ((x : ℕ × List ℕ) → clause x ≡ fact 𝓤 (Put old at text x.1 x.0)) → Only 𝓤 clause
  one_put says =
      record {
        coded = coded× coded_ℕ (coded_list coded_ℕ);
        outcome = (at + length text, sets old at text);
        Says = λ x. Put old at text x.1 x.0;
        says = says;
        there = record { now_there = refl; now_at = refl };
        alone = λ x p i. (p.now_at i, p.now_there i);
      }

  pub one_put_within : (most : ℕ) → length text ≤ most → ((x : ℕ × List ℕ) → clause x ≡ fact 𝓤 (PutWithin old at most text x.1 x.0)) → Only 𝓤 clause
  one_put_within most short says =
      record {
        coded = coded× coded_ℕ (coded_list coded_ℕ);
        outcome = (at + length text, sets old at text);
        Says = λ x. PutWithin old at most text x.1 x.0;
        says = says;
        there = record { put = record { now_there = refl; now_at = refl }; short = short };
        alone = λ x p i. (p.put.now_at i, p.put.now_there i);
      }

module _ {M : Type 1} {𝓤 : Ura M} (𝓛 : Logic 𝓤) (mem : Memory → SProp 𝓤) (run : Routine → Fun 𝓤) (out : MutBor (List ℕ)) (at : ℕ) where
  pub one_put_byte : (κs : Lfts 1) (b : ℕ) → Only 𝓤 (λ (x : ℕ × List ℕ). (put_byte.clauses 𝓛 mem run κs (out, (at, (b, tt)))).ensures tt x.0 (at_last out x.1, (at, (b, tt))))
  one_put_byte κs b = one_put 𝓤 _ out.now at (b ∷ []) (λ x. refl)

  pub one_put_bytes : (κs : Lfts 2) (text : Bor (List ℕ)) → Only 𝓤 (λ (x : ℕ × List ℕ). (put-bytes.clauses 𝓛 mem run κs (out, (at, (text, tt)))).ensures tt x.0 (at_last out x.1, (at, (text, tt))))
  one_put_bytes κs text = one_put 𝓤 _ out.now at text.now (λ x. refl)

  pub one_put_natural : (κs : Lfts 1) (n : ℕ) → Only 𝓤 (λ (x : ℕ × List ℕ). (put-natural.clauses 𝓛 mem run κs (out, (at, (n, tt)))).ensures tt x.0 (at_last out x.1, (at, (n, tt))))
  one_put_natural κs n = one_put 𝓤 _ out.now at (natural_text n) (λ x. refl)

  pub one_put_signed : (κs : Lfts 1) (z : ℤ) → Only 𝓤 (λ (x : ℕ × List ℕ). (put-signed.clauses 𝓛 mem run κs (out, (at, (z, tt)))).ensures tt x.0 (at_last out x.1, (at, (z, tt))))
  one_put_signed κs z = one_put 𝓤 _ out.now at (signed_text z) (λ x. refl)
