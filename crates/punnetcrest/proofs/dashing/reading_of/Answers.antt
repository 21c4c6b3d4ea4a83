-- `punnetcrest::dashing::reading_of` meets its contract. Assumes nothing.
use mathlib.Core.Path.{sym, ap, ◌∙◌}
use Rattle.dash.specs.Answer.{shown_reading}
use Rattle.punnetcrest.proofs.DashNumbers.{zero_as_coded}
use Rattle.punnetcrest.proofs.dashing.reading_of.Goals as goal

pub returns-in-Invalid : goal.returns-in-Invalid
returns-in-Invalid c = zero_as_coded ∙ sym (ap shown_reading c.in-Invalid.is)

pub returns-in-Absent : goal.returns-in-Absent
returns-in-Absent c = zero_as_coded ∙ sym (ap shown_reading c.in-Absent.is)

pub returns-in-Error : goal.returns-in-Error
returns-in-Error c = zero_as_coded ∙ sym (ap shown_reading c.in-Error.is)

pub returns-in-Reserved : goal.returns-in-Reserved
returns-in-Reserved c = zero_as_coded ∙ sym (ap shown_reading c.in-Reserved.is)

pub returns-in-Outside : goal.returns-in-Outside
returns-in-Outside c = zero_as_coded ∙ sym (ap shown_reading c.in-Outside.is)
