-- `doubles::in_units` meets its contract: the cast loses nothing. Assumes nothing.
-- the machine reads the thousandths back from their bits
use mathlib.Core.Path.{◌≡◌, ap, subst⁻¹, ◌∙◌}
use lib.Dec.{T}
use lib.IntN.{ℤ}
use lib.Ieee.{binary64, div, of_int, of_bits, in_float}
use mir.Syntax.{w64}
use mir.Val.{to_z, of_z}
use mir.ValLaws.{to_z-of_z}
use borrow.Author.Rules.{rules}
use Rattle.doubles.specs.Doubles.{double_of, in_units_spec}
use Rattle.doubles.proofs.Doubles.{cast_fits, as_coded}
use Rattle.doubles.proofs.in_units.Goals as goal

pub int_to_float-result : goal.int_to_float-result
int_to_float-result c =
    let back : to_z w64 (of_z w64 c.args.reading.0) ≡ c.args.reading.0 = to_z-of_z w64 c.args.reading.0 (search rules) in
    subst⁻¹ (λ (z : ℤ). T (in_float binary64 z)) back (cast_fits c.args.reading.0 c.requires)

pub returns : goal.returns
unfolding in_units_spec
returns c =
    let back : to_z w64 (of_z w64 c.args.reading.0) ≡ c.args.reading.0 = to_z-of_z w64 c.args.reading.0 (search rules) in
    ap (λ (z : ℤ). div binary64 (of_int binary64 z) (of_bits binary64 0x408f_4000_0000_0000)) back
    ∙ ap (div binary64 (double_of c.args.reading.0)) as_coded
