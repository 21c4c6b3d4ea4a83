-- The contract of the test allows one answer and no other. Assumes nothing.
use mathlib.Core.Path.{refl}
use mathlib.Core.Bool.{Bool, true, false}
use mathlib.Core.List.{List}
use Prim.Native.Nat.{ℕ}
use seplogic.Ra.Ura.{Ura}
use base.Logic.{SProp}
use base.Stored.{coded_bool}
use prog.Memory.{Memory}
use prog.Routine.{Routine}
use types.Logic.{Logic}
use contract.Lifetimes.{Lfts}
use contract.Monad.{Fun}
use denote.Ref.{Bor}
use denote.Triple.Clauses.{AtExit}
use Rattle.only.specs.Only.{Only}
use Rattle.chains.specs.Tells.{Tells}
use Rattle.chains.proofs.Bools.{told_same}
use Rattle.route_tables.specs.Tables.{RoutesTaken}
use Rattle.route_tables.proofs.Decided.{taken_or_not}
use Rattle.route_tables.specs.contracts.routes_taken as routes-taken

told : (w : List ℕ) → (r : Bool) × Tells (RoutesTaken w) r
told w = go (taken_or_not w)
  where
    go : Dec (RoutesTaken w) → (r : Bool) × Tells (RoutesTaken w) r
    go (yes t) = (true, t)
    go (no n) = (false, n)

module _ {M : Type 1} {𝓤 : Ura M} (𝓛 : Logic 𝓤) (mem : Memory → SProp 𝓤) (run : Routine → Fun 𝓤) (κs : Lfts 1) (book : Bor (List ℕ)) where
  pub one_routes_taken : (e : AtExit routes-taken.ended κs) → Only 𝓤 (λ r. (routes-taken.clauses 𝓛 mem run κs (book, tt)).ensures tt r e)
  one_routes_taken e =
      let t = told book.now in
      record {
        coded = coded_bool;
        outcome = t.0;
        Says = Tells (RoutesTaken book.now);
        says = λ r. refl;
        there = t.1;
        alone = λ r j. told_same (RoutesTaken book.now) r t.0 j t.1;
      }
