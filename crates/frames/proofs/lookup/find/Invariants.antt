-- `frames::lookup::find` meets its contract: what was passed, with the first place in the rest, is the first place.
-- Assumes nothing.
use mathlib.Core.Path.{◌≡◌}
use Prim.Native.Nat.{◌≤◌, ◌+◌}
use lib.ListN.{length, drop}
use Rattle.frames.specs.Lookup.{first_at}
use Rattle.frames.proofs.lookup.find.Given as goal

abbrev pub invariant-loop-i : goal.invariant-loop-i
invariant-loop-i l = (l.i ≤ length l.ids) × (l.i + first_at l.identifier (drop l.i l.ids) ≡ first_at l.identifier l.ids)
