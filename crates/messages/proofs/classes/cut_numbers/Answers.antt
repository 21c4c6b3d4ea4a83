-- `messages::classes::cut_numbers` meets its contract: the numbers are those of what was cut. Assumes nothing.
use mathlib.Core.Path.{ap, ◌∙◌}
use mir.Syntax.{w64}
use mir.ValLaws.{to_z-of_z}
use Rattle.catalogue.specs.declared.Cut.{Cut}
use Rattle.framing.specs.Reading.{class_code, thousandths_of_spec}
use borrow.Author.Rules.{rules}
use Rattle.messages.proofs.classes.cut_numbers.Goals as goal

pub returns : goal.returns
returns c =
    let cut = c.cut_of-cut.ensures in
    let numbers = c.numbers_of-its_code in
    let reading = to_z-of_z w64 numbers.result.1 (search rules) ∙ numbers.ensures.1 ∙ ap (λ (k : Cut). thousandths_of_spec k.class) cut in
    let code = numbers.ensures.0 ∙ ap (λ (k : Cut). class_code k.class) cut in
    λ i. (reading i, ((cut i).bits, ((cut i).raw.0, code i)))
