-- `columns::distinct` meets its contract: the answer for the rest from `at` is the answer for the whole, and the slot of each identifier passed is used. Assumes nothing.
use mathlib.Core.Path.{◌≡◌}
use mathlib.Core.List.{[]}
use lib.ListN.{length, take, drop}
use Rattle.columns.specs.Identifiers.{distinct_after}
use Rattle.columns.specs.Slots.{identifier_slots}
use Rattle.columns.proofs.Slots.{Used}
use Rattle.columns.proofs.distinct.Given as goal

abbrev pub invariant-loop-at : goal.invariant-loop-at
invariant-loop-at l = (length l.used ≡ identifier_slots) × (distinct_after (take l.at l.ids) (drop l.at l.ids) ≡ distinct_after [] l.ids) × Used l.ids l.used l.at
