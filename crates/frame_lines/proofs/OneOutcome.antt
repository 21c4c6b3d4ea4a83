-- `read_frame_line`'s contract allows one outcome and no other. Assumes nothing.
use mathlib.Core.Path.{refl}
use mathlib.Core.List.{List}
use Prim.Native.Nat.{ℕ}
use seplogic.Ra.Ura.{Ura}
use base.Logic.{SProp}
use prog.Memory.{Memory}
use prog.Routine.{Routine}
use types.Logic.{Logic}
use contract.Lifetimes.{Lfts}
use contract.Monad.{Fun}
use denote.Ref.{Bor}
use denote.Triple.Clauses.{AtExit}
use Rattle.only.specs.Only.{Only, only_this}
use Rattle.frame_lines.specs.Meaning.{frame_line_says}
use Rattle.frame_lines.specs.Told.{told}
use Rattle.frame_lines.specs.contracts.FrameLine as T
use Rattle.frame_lines.specs.contracts.read_frame_line as read-frame-line

module _ {M : Type 1} {𝓤 : Ura M} (𝓛 : Logic 𝓤) (mem : Memory → SProp 𝓤) (run : Routine → Fun 𝓤) (κs : Lfts 1) (line : Bor (List ℕ)) where
  pub one_read_frame_line : (e : AtExit read-frame-line.ended κs) → Only 𝓤 (λ r. (read-frame-line.clauses 𝓛 mem run κs (line, tt)).ensures tt r e)
  one_read_frame_line e = only_this 𝓤 _ (T.the_row).coded (told (frame_line_says line.now)) (λ r. refl)
