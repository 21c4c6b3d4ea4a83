-- `messages::classes::class_numbers` meets its contract: a number that is more than the count cut from it is too wide. Assumes nothing.
use mathlib.Core.Path.{sym, ap, ◌∙◌}
use mir.Syntax.{w64}
use mir.ValLaws.{to_z-of_z}
use Rattle.catalogue.proofs.Classing.{class_cut, cut_too_wide}
use Rattle.framing.specs.Reading.{class_code, thousandths_of_spec}
use Rattle.messages.proofs.Cuts.{its_reading, its_count, its_code}
use borrow.Author.Rules.{rules}
use Rattle.messages.proofs.classes.class_numbers.Goals as goal

pub returns-then-count-raw : goal.returns-then-count-raw
returns-then-count-raw c =
    let whole = c.cut_numbers-reading.ensures in
    let class = cut_too_wide _ _ (λ e. c.if-count-raw.true (its_count whole ∙ e)) in
    λ i. (thousandths_of_spec (class i), class_code (class i))

pub returns : goal.returns
returns c =
    let whole = c.cut_numbers-reading.ensures in
    let class = class_cut _ _ (sym (its_count whole) ∙ c.if-count-raw.false) in
    let reading = to_z-of_z w64 c.cut_numbers-reading.result (search rules) ∙ its_reading whole ∙ ap thousandths_of_spec class in
    let code = its_code whole ∙ ap class_code class in
    λ i. (reading i, code i)
