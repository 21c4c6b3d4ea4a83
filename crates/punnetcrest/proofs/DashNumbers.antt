-- The dash in numbers: from the answer of the call to what pc_dash returns and leaves, and beside pc_class: the same refusal and the same
-- class code, for every number and count. Assumes nothing.
use mathlib.Core.Path.{◌≡◌, refl, sym, ap, ◌∙◌}
use Prim.Native.Nat.{ℕ}
use lib.IntN.{ℤ}
use lib.Ieee.{Float, binary64, of_bits, of_int, round}
use Rattle.std.specs.Prelude.{Result, Ok, Err}
use Rattle.catalogue.specs.declared.Class.{Class}
use Rattle.catalogue.specs.declared.NoClass.{NoClass}
use Rattle.catalogue.specs.declared.NoClass.TheVariants.{NotInCatalogue, TooWide}
use Rattle.catalogue.specs.declared.Class.TheVariants as old
use Rattle.catalogue.specs.Class.{class_of_spec}
use Rattle.dash.specs.declared.Dash.{Dash}
use Rattle.dash.specs.Answer.{dash_for, dash_of, shown_class, no_reading, shown_reading}
use Rattle.punnetcrest.specs.Classing.{classed_in_numbers, classed}
use Rattle.punnetcrest.specs.Dashing.{name_code, dashed_in_numbers, dashed}

-- 0.0, as the code has it
pub zero_as_coded : of_bits binary64 0 ≡ no_reading
unfolding of_bits of_int round
zero_as_coded = refl

module _ (number raw code : ℕ) (reading : Float) where
  -- an answer in numbers
  pub in_numbers : {a b : Result Dash NoClass} → a ≡ dash_of number (record { 0 = raw }) → a ≡ b → dashed_in_numbers b code reading ≡ dashed number raw code reading
  in_numbers is e = ap (λ (x : Result Dash NoClass). dashed_in_numbers x code reading) (sym e ∙ is)

  pub shown_in_numbers : {a : Result Dash NoClass} {d : Dash} {k : ℕ} {x : Float} → a ≡ dash_of number (record { 0 = raw }) → a ≡ Ok d
      → k ≡ name_code (shown_class d) → x ≡ shown_reading d → (0, (k, x)) ≡ dashed number raw code reading
  shown_in_numbers is e f g = (λ i. (0, (f i, g i))) ∙ in_numbers is e

  -- ---- beside pc_class, whatever was lent to it

  module _ (thousandths : ℤ) where
    same_of : (c : Result Class NoClass)
        → ((dashed_in_numbers (dash_for c) code reading).0 ≡ (classed_in_numbers c code thousandths).0)
        × ((dashed_in_numbers (dash_for c) code reading).1.0 ≡ (classed_in_numbers c code thousandths).1.0)
    same_of (Ok (old.Value t)) = (refl, refl)
    same_of (Ok (old.Invalid r)) = (refl, refl)
    same_of (Ok (old.Absent r)) = (refl, refl)
    same_of (Ok (old.Error r)) = (refl, refl)
    same_of (Ok (old.Reserved r)) = (refl, refl)
    same_of (Ok (old.Outside r)) = (refl, refl)
    same_of (Err NotInCatalogue) = (refl, refl)
    same_of (Err TooWide) = (refl, refl)

    -- the refusal is the same, and so is what stands in *class_code
    pub as_classed : ((dashed number raw code reading).0 ≡ (classed number raw code thousandths).0) × ((dashed number raw code reading).1.0 ≡ (classed number raw code thousandths).1.0)
    unfolding dash_of
    as_classed = same_of (class_of_spec number (record { 0 = raw }))
