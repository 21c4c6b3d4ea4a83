-- `doubles::bits_in_units` meets its contract: the reading is no NaN. Assumes nothing.
use mathlib.Core.Path.{ap, subst⁻¹}
use mathlib.Core.Bool.{not}
use lib.Dec.{T}
use lib.Ieee.{Float, binary64, is_nan, to_bits}
use Rattle.doubles.proofs.Doubles.{no_nan}
use Rattle.doubles.proofs.bits_in_units.Goals as goal

pub float_to_bits-result : goal.float_to_bits-result
float_to_bits-result c = subst⁻¹ (λ (x : Float). T (not (is_nan x))) c.in_units.ensures (no_nan c.args.reading c.requires)

pub returns : goal.returns
returns c = ap (to_bits binary64) c.in_units.ensures
