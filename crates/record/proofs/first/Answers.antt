-- `record::first` meets its contract: the part that is lent has `count` entries. Assumes nothing.
use mathlib.Core.Path.{refl, sym}
use lib.Seq.{length-take-le}
use Rattle.record.proofs.first.Goals as goal

pub slice_bounds-result-end : goal.slice_bounds-result-end
slice_bounds-result-end c = sym (length-take-le _ _ c.requires)

pub returns : goal.returns
returns c = (refl, length-take-le _ _ c.requires)
