-- `punnetcrest::sleeping::pc_sleep_watch` meets its contract. Two numbers that are no watch are returned as they came; any others are a watch,
-- and the library's own call answers for it. Assumes nothing.
use Rattle.punnetcrest.proofs.SleepNumbers.{no_watch, as_watched}
use Rattle.punnetcrest.proofs.sleeping.pc_sleep_watch.Goals as goal

pub returns-then-asleep-gt1 : goal.returns-then-asleep-gt1
returns-then-asleep-gt1 c = no_watch _ _ _ _ c.if-asleep-gt1.true

pub returns-then-after : goal.returns-then-after
returns-then-after c =
    rw c.number_of.ensures (as_watched _ _ _ _ c.if-asleep-gt1.false c.updated-next.ensures c.if-after.true)

pub returns : goal.returns
returns c =
    rw c.number_of-2.ensures (as_watched _ _ _ _ c.if-asleep-gt1.false c.updated-next.ensures c.if-after.false)
