-- The contract of `number_all` allows one content of the numbers at exit and no other. Assumes nothing.
use mathlib.Core.Path.{◌≡◌, refl}
use mathlib.Core.List.{List, ◌++◌}
use Prim.Native.Nat.{ℕ, ◌+◌, ◌≤◌}
use native.Mathlib.Omega.{arith}
use seplogic.Ra.Ura.{Ura}
use base.Logic.{SProp}
use base.Stored.{coded_ℕ, coded_list}
use prog.Memory.{Memory}
use prog.Routine.{Routine}
use types.Logic.{Logic}
use contract.Lifetimes.{Lfts}
use contract.Monad.{Fun}
use denote.Bor.{Bor}
use denote.Ref.{MutBor, at_last}
use lib.ListN.{length, length-append}
use Rattle.only.specs.Only.{Only}
use Rattle.lists.proofs.Overlaid.{Overlaid, overlaid, overlaid_once}
use Rattle.numbering.specs.Numbers.{FirstAt, Numbered, NumbersOf}
use Rattle.numbering.proofs.Firsts.{first_at_law, first_once}
use Rattle.numbering.specs.contracts.number_all as number-all

module _ (places lent : List ℕ) where
  laid_over : (l : List ℕ) → NumbersOf places lent l → Overlaid (FirstAt places) (length places) lent l
  unfolding Numbered
  laid_over l o = record { each = o.numbered; long = o.long; rest = o.rest }

  numbers_there : length places ≤ length lent → (l : List ℕ) × NumbersOf places lent l
  unfolding Numbered
  numbers_there h = let r = overlaid (FirstAt places) (length places) lent h (λ i b. first_at_law places i) in (r.0, record { numbered = r.1.each; long = r.1.long; rest = r.1.rest })

  numbers_once : (l m : List ℕ) → NumbersOf places lent l → NumbersOf places lent m → l ≡ m
  numbers_once l m f g = overlaid_once (FirstAt places) (length places) lent (λ i b. first_once places i) l m (laid_over l f) (laid_over m g)

module _ {M : Type 1} {𝓤 : Ura M} (𝓛 : Logic 𝓤) (mem : Memory → SProp 𝓤) (run : Routine → Fun 𝓤) (κs : Lfts 3) where
  -- where there is room
  pub one_number_all : (tos froms : Bor (List ℕ)) (numbers : MutBor (List ℕ)) → length tos.now + length froms.now ≤ length numbers.now
      → Only 𝓤 (λ (x : List ℕ). (number-all.clauses 𝓛 mem run κs (tos, (froms, (numbers, tt)))).ensures tt tt (tos, (froms, (at_last numbers x, tt))))
  one_number_all tos froms numbers room =
      let places = tos.now ++ froms.now in
      let r = numbers_there places numbers.now (omega (arith, length-append tos.now froms.now)) in
      record {
        coded = coded_list coded_ℕ;
        outcome = r.0;
        Says = NumbersOf places numbers.now;
        says = λ x. refl;
        there = r.1;
        alone = λ x o. numbers_once places numbers.now x r.0 o r.1;
      }
