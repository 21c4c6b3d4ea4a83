-- The contracts of `row_at`, `widths` and `last_starts` each allow one outcome and no other. Assumes nothing.
use mathlib.Core.Path.{refl}
use Prim.Native.Nat.{ℕ}
use seplogic.Ra.Ura.{Ura}
use base.Logic.{SProp}
use base.Stored.{coded_ℕ, coded_list}
use prog.Memory.{Memory}
use prog.Routine.{Routine}
use types.Logic.{Logic}
use contract.Monad.{Fun}
use denote.Triple.Clauses.{AtExit}
use lib.ListN.{get_or}
use Rattle.only.specs.Only.{Only, only_this}
use Rattle.rows.specs.Rows.{rows, blank}
use Rattle.rows.specs.Widths.{widths_of, last_starts_of}
use Rattle.rows.specs.contracts.Row as Row
use Rattle.rows.specs.contracts.table.last_starts as last-starts
use Rattle.rows.specs.contracts.table.row_at as row_at
use Rattle.rows.specs.contracts.table.widths as widths

module _ {M : Type 1} {𝓤 : Ura M} (𝓛 : Logic 𝓤) (mem : Memory → SProp 𝓤) (run : Routine → Fun 𝓤) where
  pub one_row_at : (place : ℕ) (e : AtExit row_at.ended tt) → Only 𝓤 (λ r. (row_at.clauses 𝓛 mem run tt (place, tt)).ensures tt r e)
  one_row_at place e = only_this 𝓤 _ (Row.the_row).coded (get_or rows place blank) (λ r. refl)

  pub one_widths : (e : AtExit widths.ended tt) → Only 𝓤 (λ r. (widths.clauses 𝓛 mem run tt tt).ensures tt r e)
  one_widths e = only_this 𝓤 _ (coded_list coded_ℕ) (widths_of rows) (λ r. refl)

  pub one_last_starts : (e : AtExit last-starts.ended tt) → Only 𝓤 (λ r. (last-starts.clauses 𝓛 mem run tt tt).ensures tt r e)
  one_last_starts e = only_this 𝓤 _ (coded_list coded_ℕ) (last_starts_of rows) (λ r. refl)
