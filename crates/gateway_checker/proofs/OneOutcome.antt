-- The contracts of `judge` and `sound` each allow one answer and no other. Assumes nothing.
use mathlib.Core.Path.{refl}
use mathlib.Core.Bool.{Bool, true, false}
use mathlib.Core.List.{List}
use Prim.Native.Nat.{ℕ}
use seplogic.Ra.Ura.{Ura}
use base.Logic.{SProp}
use base.Stored.{coded_bool}
use prog.Memory.{Memory}
use prog.Routine.{Routine}
use types.Logic.{Logic}
use contract.Lifetimes.{Lfts}
use contract.Monad.{Fun}
use denote.Ref.{Bor}
use denote.Triple.Clauses.{AtExit}
use Rattle.only.specs.Only.{Only}
use Rattle.chains.specs.Chain.{IsSound}
use Rattle.chains.specs.Tells.{Tells}
use Rattle.chains.proofs.Bools.{told_same}
use Rattle.verdict.specs.Verdicts.{Judged}
use Rattle.verdict.specs.declared.Verdict.{Verdict}
use Rattle.verdict.specs.declared.Verdict.TheVariants as verdict
use Rattle.verdict.proofs.Once.{judged, judged_once, loop_unsound, doubling_unsound}
use Rattle.verdict.specs.contracts.Verdict as the-verdict
use Rattle.gateway_checker.specs.contracts.judge as judge
use Rattle.gateway_checker.specs.contracts.sound as sound

-- a verdict tells whether the table is sound
told : (fs ts : List ℕ) → (v : Verdict) × Judged fs ts v → (r : Bool) × Tells (IsSound fs ts) r
told fs ts (verdict.Loop i, j) = (false, loop_unsound fs ts i j)
told fs ts (verdict.Doubling i, j) = (false, doubling_unsound fs ts i j)
told fs ts (verdict.Sound, j) = (true, j)

module _ {M : Type 1} {𝓤 : Ura M} (𝓛 : Logic 𝓤) (mem : Memory → SProp 𝓤) (run : Routine → Fun 𝓤) (κs : Lfts 2) (froms tos : Bor (List ℕ)) where
  pub one_judge : (e : AtExit judge.ended κs) → Only 𝓤 (λ r. (judge.clauses 𝓛 mem run κs (froms, (tos, tt))).ensures tt r e)
  one_judge e =
      let v = judged froms.now tos.now in
      record {
        coded = (the-verdict.the_row).coded;
        outcome = v.0;
        Says = Judged froms.now tos.now;
        says = λ r. refl;
        there = v.1;
        alone = λ r j. judged_once froms.now tos.now r v.0 j v.1;
      }

  pub one_sound : (e : AtExit sound.ended κs) → Only 𝓤 (λ r. (sound.clauses 𝓛 mem run κs (froms, (tos, tt))).ensures tt r e)
  one_sound e =
      let t = told froms.now tos.now (judged froms.now tos.now) in
      record {
        coded = coded_bool;
        outcome = t.0;
        Says = Tells (IsSound froms.now tos.now);
        says = λ r. refl;
        there = t.1;
        alone = λ r j. told_same (IsSound froms.now tos.now) r t.0 j t.1;
      }
