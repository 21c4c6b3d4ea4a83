-- "A second program, else like the lister, prints the bits of the double [..] in place of the thousandths": beside the word of a value that
-- lister prints the bits of the double that the dash call shows, and beside any other word what the lister prints. Assumes nothing.
use mathlib.Core.Path.{◌≡◌, refl, sym, ap, ◌∙◌}
use Prim.Native.Nat.{ℕ}
use lib.Ieee.{Float}
use Rattle.catalogue.specs.declared.Raw.{Raw}
use Rattle.catalogue.specs.declared.Thousandths.{Thousandths}
use Rattle.std.specs.Prelude.{Result, Ok, Err}
use Rattle.catalogue.specs.declared.Class.{Class}
use Rattle.catalogue.specs.declared.NoClass.{NoClass}
use Rattle.catalogue.specs.declared.Class.TheVariants.{Value, Invalid, Absent, Error, Reserved, Outside}
use Rattle.catalogue.specs.Class.{class_of_spec}
use Rattle.dash.specs.declared.Dash.TheVariants as dash
use Rattle.dash.specs.Answer.{dash_of}
use Rattle.dash.proofs.Right.{dash_right}
use Rattle.doubles.specs.Doubles.{in_units_spec}
use Rattle.signal_lines.specs.declared.figures.Figures.TheVariants.{InThousandths, AsDoubles}
use Rattle.signal_lines.specs.Words.{double_text, figure_of}

pub dash_listed : (number : ℕ) (raw : Raw) (x : Float) → dash_of number raw ≡ Ok (dash.Value x) → figure_of AsDoubles (class_of_spec number raw) ≡ double_text x
unfolding in_units_spec
dash_listed number raw x e =
    let shown = (dash_right number raw).reading x e in
    ap (figure_of AsDoubles) shown.read ∙ sym (ap double_text shown.divided)

pub others_listed : (class : Result Class NoClass) → ((t : Thousandths) → class ≡ Ok (Value t) → ⊥) → figure_of AsDoubles class ≡ figure_of InThousandths class
others_listed (Ok (Value t)) h = absurd (h t refl)
others_listed (Ok (Invalid raw)) h = refl
others_listed (Ok (Absent raw)) h = refl
others_listed (Ok (Error raw)) h = refl
others_listed (Ok (Reserved raw)) h = refl
others_listed (Ok (Outside raw)) h = refl
others_listed (Err e) h = refl
