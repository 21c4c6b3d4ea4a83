-- The number that goes with a class has at most 64 bits, and that of a signal in the catalogue is below 2000. Assumes nothing.
use mathlib.Core.Path.{◌≡◌, refl}
use mathlib.Core.Bool.{Bool, true, false, cond}
use mathlib.Core.Option.{Option, none, some}
use Prim.Native.Nat.{ℕ, ◌^◌, ◌≤◌, ◌<◌}
use native.Mathlib.Nat.{pow-le-pow_right}
use native.Mathlib.Omega.{arith}
use lib.Dec.{leb, ltb}
use lib.IntN.{ℤ, pos, negsuc, nat_abs}
use mir.Syntax.{w64}
use mir.Val.{SFits}
use borrow.Author.Tests.{leb-false, ltb-true, ltb-false}
use Rattle.rows.specs.declared.Row.{Row}
use Rattle.rows.specs.Rule.{Rule, exact_doubles}
use Rattle.catalogue.specs.declared.Raw.{Raw}
use Rattle.std.specs.Prelude.{Result, Ok, Err}
use Rattle.catalogue.specs.declared.Class.{Class}
use Rattle.catalogue.specs.declared.NoClass.{NoClass}
use Rattle.catalogue.specs.declared.Class.TheVariants.{Value}
use Rattle.catalogue.specs.declared.NoClass.TheVariants.{TooWide}
use Rattle.catalogue.specs.Class.{reading_of, class_in_spec, class_for, class_of_spec, carried_by}
use Rattle.catalogue.specs.Find.{row_of, bits_of_spec}
use Rattle.catalogue.specs.Places.{number_limit}
use Rattle.catalogue.proofs.Found.{RuleOf, rule_of}
use Rattle.catalogue.proofs.OneClass.{of_class}
use Rattle.catalogue.proofs.Placed.{place_above, no_bits}
use Rattle.doubles.proofs.Values.{reading_within}

abbrev Carries : Result Class NoClass → Type 0
Carries class = SFits w64 (carried_by class)

module _ (raw : Raw) (h : raw.0 < 2 ^ 32) where
  count_fits : SFits w64 (pos raw.0)
  count_fits = record { sfits = omega (arith, h) }

  row_carries : (r : Row) → Carries (Ok (Value (reading_of r raw))) → Carries (Ok (class_in_spec r raw))
  row_carries r v = of_class (λ k. Carries (Ok k)) raw count_fits count_fits count_fits count_fits r v count_fits

-- what a double holds fits 64 bits
few_fit : (z : ℤ) → nat_abs z ≤ exact_doubles → SFits w64 z
few_fit (pos n) h = record { sfits = omega (arith, h) }
few_fit (negsuc n) h = record { sfits = omega (arith, h) }

-- a count that its row has bits for
row_fits : (r : Row) (raw : Raw) → Rule r → raw.0 < 2 ^ r.bits → Carries (Ok (class_in_spec r raw))
row_fits r raw rule h =
    let wide : 2 ^ r.bits ≤ 2 ^ 32 = pow-le-pow_right (omega arith) rule.few_bits in
    row_carries raw (omega (arith, wide)) r (few_fit (reading_of r raw).0 (reading_within r raw exact_doubles rule.small h))

pub class_fits : (number : ℕ) (raw : Raw) → Carries (class_of_spec number raw)
unfolding class_of_spec
class_fits number raw = of (row_of number) (rule_of number)
  where
    go : (r : Row) (b : Bool) → Rule r → leb (2 ^ r.bits) raw.0 ≡ b → Carries (cond b (Err TooWide) (Ok (class_in_spec r raw)))
    go r true rule e = record { sfits = omega arith }
    go r false rule e = row_fits r raw rule (leb-false (2 ^ r.bits) raw.0 e)

    of : (o : Option Row) → RuleOf o → Carries (class_for o raw)
    of none rule = record { sfits = omega arith }
    of (some r) rule = go r (leb (2 ^ r.bits) raw.0) rule refl

-- a signal that has bits is in the catalogue, whose numbers are below 2000
pub number_small : (n : ℕ) → 1 ≤ bits_of_spec n → n < number_limit
number_small n h = go (ltb n number_limit) refl
  where
    go : (b : Bool) → ltb n number_limit ≡ b → n < number_limit
    go true e = ltb-true n number_limit e
    go false e = absurd (omega (arith, no_bits n (place_above n (ltb-false n number_limit e))))
