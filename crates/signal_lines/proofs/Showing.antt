-- The figures of a value: how long they are, and that thousandths are as they were before there were doubles. Assumes nothing.
use mathlib.Core.Path.{◌≡◌, refl, sym, ap, ◌∙◌}
use mathlib.Core.List.{List}
use Prim.Native.Nat.{ℕ, ◌+◌, ◌≤◌}
use native.Mathlib.Omega.{arith}
use lib.ListN.{length}
use lib.Seq.{sets}
use lib.Ieee.{Float, binary64, to_bits}
use mir.Syntax.{w64}
use mir.Val.{SFits}
use Rattle.std.specs.Prelude.{Result, Ok, Err}
use Rattle.catalogue.specs.declared.Thousandths.{Thousandths}
use Rattle.catalogue.specs.declared.Class.{Class}
use Rattle.catalogue.specs.declared.Class.TheVariants.{Value, Invalid, Absent, Error, Reserved, Outside}
use Rattle.catalogue.specs.declared.NoClass.{NoClass}
use Rattle.catalogue.specs.Class.{carried_by}
use Rattle.doubles.specs.Doubles.{in_units_spec}
use Rattle.numerals.specs.Written.{digits_of_spec}
use Rattle.numerals.proofs.Digits.{length_digits}
use Rattle.printing.specs.Decimal.{signed_text, signed_room}
use Rattle.printing.specs.Put.{Put}
use Rattle.printing.proofs.Spelling.{signed_few}
use Rattle.signal_lines.specs.declared.figures.Figures.{Figures}
use Rattle.signal_lines.specs.declared.figures.Figures.TheVariants.{InThousandths, AsDoubles}
use Rattle.signal_lines.specs.Words.{double_digits, double_text, figure_of}

-- the thousandths of a value, or the raw count of any other class
pub in_thousandths : (class : Result Class NoClass) → figure_of InThousandths class ≡ signed_text (carried_by class)
in_thousandths (Ok (Value t)) = refl
in_thousandths (Ok (Invalid raw)) = refl
in_thousandths (Ok (Absent raw)) = refl
in_thousandths (Ok (Error raw)) = refl
in_thousandths (Ok (Reserved raw)) = refl
in_thousandths (Ok (Outside raw)) = refl
in_thousandths (Err e) = refl

pub double_put : {old new : List ℕ} {at bits : ℕ} (t : Thousandths) → bits ≡ to_bits binary64 (in_units_spec t) → new ≡ sets old at (digits_of_spec 16 double_digits bits)
    → Put old at (double_text (in_units_spec t)) new (at + double_digits)
unfolding double_text
double_put {old} {new} {at} {bits} t e p =
    record {
      now_there = p ∙ ap (λ (n : ℕ). sets old at (digits_of_spec 16 double_digits n)) e;
      now_at = ap (λ (n : ℕ). at + n) (sym (length_digits 16 double_digits (to_bits binary64 (in_units_spec t))));
    }

pub double_long : (x : Float) → length (double_text x) ≡ double_digits
unfolding double_text
double_long x = length_digits 16 16 (to_bits binary64 x)

-- whatever a value shows, there is room for it
pub figure_few : (figures : Figures) (class : Result Class NoClass) → SFits w64 (carried_by class) → length (figure_of figures class) ≤ signed_room
figure_few InThousandths class f = rw (in_thousandths class) (signed_few (carried_by class) f)
figure_few AsDoubles (Ok (Value t)) f = omega (arith, double_long (in_units_spec t))
figure_few AsDoubles (Ok (Invalid raw)) f = signed_few (carried_by (Ok (Invalid raw))) f
figure_few AsDoubles (Ok (Absent raw)) f = signed_few (carried_by (Ok (Absent raw))) f
figure_few AsDoubles (Ok (Error raw)) f = signed_few (carried_by (Ok (Error raw))) f
figure_few AsDoubles (Ok (Reserved raw)) f = signed_few (carried_by (Ok (Reserved raw))) f
figure_few AsDoubles (Ok (Outside raw)) f = signed_few (carried_by (Ok (Outside raw))) f
figure_few AsDoubles (Err e) f = signed_few (carried_by (Err e)) f
