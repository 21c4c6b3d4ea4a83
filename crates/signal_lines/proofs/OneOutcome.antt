-- Each public function's contract allows one outcome and no other: the place after the line, and what stands in the lent slice at exit.
-- The numbers are those of their types, so no line is too long. Assumes nothing.
use mathlib.Core.Path.{refl}
use mathlib.Core.List.{List}
use Prim.Native.Nat.{ℕ, ◌^◌, ◌<◌}
use native.Mathlib.Omega.{arith}
use seplogic.Ra.Ura.{Ura}
use base.Logic.{SProp}
use mir.Syntax.{w64}
use mir.Val.{SFits}
use prog.Memory.{Memory}
use prog.Routine.{Routine}
use types.Logic.{Logic}
use contract.Lifetimes.{Lfts}
use contract.Monad.{Fun}
use denote.Ref.{MutBor, at_last}
use Rattle.only.specs.Only.{Only}
use Rattle.std.specs.Prelude.{Result}
use Rattle.catalogue.specs.declared.Class.{Class}
use Rattle.catalogue.specs.declared.NoClass.{NoClass}
use Rattle.catalogue.specs.Class.{carried_by}
use Rattle.printing.proofs.OneOutcome.{one_put_within}
use Rattle.signal_lines.specs.declared.figures.Figures.{Figures}
use Rattle.signal_lines.specs.Printed.{reading_line, refused_frame_line, listed_line_room}
use Rattle.signal_lines.proofs.Lengths.{reading_short, refused_short}
use Rattle.signal_lines.specs.contracts.put_reading as put-reading
use Rattle.signal_lines.specs.contracts.put_refused as Put-refused

module _ {M : Type 1} {𝓤 : Ura M} (𝓛 : Logic 𝓤) (mem : Memory → SProp 𝓤) (run : Routine → Fun 𝓤) (κs : Lfts 1) (out : MutBor (List ℕ)) (at identifier number : ℕ) (h : number < 2 ^ 32) where
  pub one_put_reading : (class : Result Class NoClass) (figures : Figures) → SFits w64 (carried_by class)
      → Only 𝓤 (λ (x : ℕ × List ℕ). (put-reading.clauses 𝓛 mem run κs (out, (at, (identifier, (number, (class, (figures, tt))))))).ensures tt x.0 (at_last out x.1, (at, (identifier, (number, (class, (figures, tt)))))))
  one_put_reading class figures f =
      one_put_within 𝓤 _ out.now at (reading_line figures identifier number class) listed_line_room (reading_short identifier number (omega arith) figures class f) (λ x. refl)

  pub one_put_refused : Only 𝓤 (λ (x : ℕ × List ℕ). (Put-refused.clauses 𝓛 mem run κs (out, (at, (identifier, (number, tt))))).ensures tt x.0 (at_last out x.1, (at, (identifier, (number, tt)))))
  one_put_refused = one_put_within 𝓤 _ out.now at (refused_frame_line identifier number) listed_line_room (refused_short identifier number (omega arith)) (λ x. refl)
