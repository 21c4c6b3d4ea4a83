-- `tables::testing::well_parted` meets its contract: the answer for the messages from `at` on is the answer for all, and the stamps are below that of the next message. Assumes nothing.
use Prim.Native.Nat.{◌+◌}
use Rattle.placing.specs.Stamps.{Below}
use Rattle.tables.proofs.Parted.{Reached}
use Rattle.tables.proofs.testing.well_parted.Given as goal

abbrev pub invariant-loop-at : goal.invariant-loop-at
invariant-loop-at l = Reached l.ends l.numbers l.starts l.begin l.at × Below l.stamps (l.at + 1)
