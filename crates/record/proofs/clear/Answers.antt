-- `record::clear` meets its contract: the words that it stores are those of the empty book. Assumes nothing.
use Rattle.record.specs.Columns.{empty_book}
use mathlib.Core.Path.{refl}
use Rattle.record.proofs.clear.Goals as goal

pub returns : goal.returns
unfolding empty_book
returns c = refl
