-- `placing::Filled::with_signal` meets its contract: each mask grows by what it is given. Assumes nothing.
use mathlib.Core.Path.{ap, ◌∙◌}
use mathlib.Core.Bool.{Bool, ◌||◌}
use Rattle.masks.specs.Bit.{bit}
use Rattle.placing.proofs.Filled.with_signal.Goals as goal

pub returns : goal.returns
returns c = record {
  bits_more = λ k. c.either.ensures k ∙ ap (λ (t : Bool). bit c.args.self.bits k || t) (c.run-bits_here.ensures k);
  marks_more = c.with.ensures;
}
