-- Each public function's contract allows one outcome and no other. Assumes nothing.
use mathlib.Core.Path.{refl}
use mathlib.Core.List.{List, []}
use Prim.Native.Nat.{ℕ}
use seplogic.Ra.Ura.{Ura}
use base.Logic.{SProp}
use base.Stored.{Coded, coded×}
use prog.Memory.{Memory}
use prog.Routine.{Routine}
use types.Logic.{Logic}
use contract.Lifetimes.{Lfts}
use contract.Monad.{Fun}
use denote.Bor.{Bor}
use denote.Ref.{MutBor, at_last}
use denote.Triple.Clauses.{AtExit}
use mir.Syntax.{named}
use Rattle.only.specs.Only.{Only, only_this}
use Rattle.line.specs.declared.Line.{Line}
use Rattle.line.specs.LineAt.{line_at}
use Rattle.line.specs.contracts.Line as S
use Rattle.line.specs.contracts.ReadLine as D
use Rattle.line_reader.specs.declared.LineReader.{LineReader}
use Rattle.line_reader.specs.Reader.{reader_at_spec, next_line_spec}
use Rattle.line_reader.specs.contracts.LineReader as T
use Rattle.line_reader.specs.contracts.reader_at as reader_at
use Rattle.line_reader.specs.contracts.next_line as next_line_law
use Rattle.line_reader.specs.contracts.read_at as read_at

abbrev coded_reader : Coded LineReader
coded_reader = (T.the_row (record { mir = named 0; lft = [] })).coded

module _ {M : Type 1} {𝓤 : Ura M} (𝓛 : Logic 𝓤) (mem : Memory → SProp 𝓤) (run : Routine → Fun 𝓤) where
  pub one_reader_at : (κs : Lfts 1) (text : Bor (List ℕ)) (at : ℕ) (e : AtExit reader_at.ended κs) → Only 𝓤 (λ r. (reader_at.clauses 𝓛 mem run κs (text, (at, tt))).ensures tt r e)
  one_reader_at κs text at e = only_this 𝓤 _ coded_reader (reader_at_spec text at) (λ r. refl)

  -- the line, and the reader that stands there at exit, together
  pub one_next_line : (κs : Lfts 2) (reader : MutBor LineReader) → Only 𝓤 (λ (x : Line × LineReader). (next_line_law.clauses 𝓛 mem run κs (reader, tt)).ensures tt x.0 (at_last reader x.1, tt))
  one_next_line κs reader = only_this 𝓤 _ (coded× (S.the_row).coded coded_reader) (next_line_spec reader.now) (λ x. refl)

  pub one_read_at : (κs : Lfts 1) (text : Bor (List ℕ)) (at : ℕ) (e : AtExit read_at.ended κs) → Only 𝓤 (λ r. (read_at.clauses 𝓛 mem run κs (text, (at, tt))).ensures tt r e)
  one_read_at κs text at e = only_this 𝓤 _ (D.the_row).coded (line_at text.now at) (λ r. refl)
