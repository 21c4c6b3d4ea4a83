-- The 15 worked examples that document 01 marks to be proved. Assumes nothing.
use mathlib.Core.Path.{◌≡◌, refl}
use mathlib.Core.List.{map}
use Rattle.rows.specs.Rows.{rows}
use Rattle.catalogue.specs.Find.{row_of}
use Rattle.catalogue.specs.Class.{class_of_spec, between}
use Rattle.power.specs.Observed.{precharge_complete_spec}
use Rattle.worked.specs.Table.{answer, Worked, worked}

pub all : map (λ (w : Worked). answer w.asked) worked ≡ map (λ (w : Worked). w.given) worked
unfolding worked class_of_spec row_of rows between precharge_complete_spec
all = refl
