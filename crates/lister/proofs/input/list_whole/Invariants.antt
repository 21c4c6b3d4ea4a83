-- `lister::input::list_whole` keeps to its text. Assumes nothing.
use Rattle.std.proofs.Common.{length, ◌-◌, ◌≡◌, ◌≤◌}
use Rattle.lister.proofs.input.list_whole.Given as goal

abbrev pub invariant-loop-used : goal.invariant-loop-used
invariant-loop-used g l = (l.used ≤ length l.text) × (length l.out ≡ length l.initial.out)

abbrev pub decreases-loop-used : goal.decreases-loop-used
decreases-loop-used g l = length l.text - l.used
