-- The thousandths of every value of every signal are so few that a double holds them: raw x resolution + offset is at most 2 ^ 53 either
-- way by the catalogue's rule. Assumes nothing.
use mathlib.Core.Path.{◌≡◌, refl, subst}
use mathlib.Core.Bool.{Bool, true, false, cond}
use mathlib.Core.Option.{Option, none, some}
use Prim.Native.Nat.{ℕ, suc, ◌+◌, ◌*◌, ◌-◌, ◌^◌, ◌≤◌, ◌<◌}
use native.Mathlib.Nat.{le_refl, le_of_lt, mul-le-mul_right}
use native.Mathlib.Omega.{arith}
use lib.Dec.{leb, ltb}
use lib.IntN.{ℤ, pos, negsuc, nat_abs, ◌+ℤ◌, ◌*ℤ◌}
use borrow.Author.Tests.{leb-false}
use Rattle.std.specs.Prelude.{Ok, Err}
use Rattle.rows.specs.declared.Row.{Row}
use Rattle.rows.specs.Rule.{Rule, exact_doubles}
use Rattle.catalogue.specs.declared.Raw.{Raw}
use Rattle.catalogue.specs.declared.Thousandths.{Thousandths}
use Rattle.catalogue.specs.declared.Class.TheVariants.{Value}
use Rattle.catalogue.specs.declared.NoClass.TheVariants.{TooWide}
use Rattle.catalogue.specs.Find.{row_of}
use Rattle.catalogue.specs.Class.{reading_of, class_in_spec, class_for, class_of_spec}
use Rattle.catalogue.proofs.Found.{RuleOf, rule_of}
use Rattle.catalogue.proofs.OneClass.{of_class}
use Rattle.doubles.specs.Doubles.{double_of, in_units_spec, IsWhole, nearest_to, Small, SmallIfValue}
use Rattle.doubles.proofs.Doubles.{without_loss, rounded_once, whole_exact}

-- a + z is no larger than a and z together
size_add : (a : ℕ) (z : ℤ) → nat_abs (pos a +ℤ z) ≤ a + nat_abs z
size_add a (pos b) = le_refl (a + b)
size_add a (negsuc b) = go (ltb a (suc b))
  where
    go : (t : Bool) → nat_abs (cond t (negsuc (suc b - suc a)) (pos (a - suc b))) ≤ a + suc b
    go true = omega arith
    go false = omega arith

-- a reading of a count that fits is no larger than the row's largest
pub reading_within : (r : Row) (raw : Raw) (most : ℕ) → 2 ^ r.bits * r.resolution + nat_abs r.offset ≤ most → raw.0 < 2 ^ r.bits → nat_abs (reading_of r raw).0 ≤ most
reading_within r raw most few h =
    let fewer : raw.0 * r.resolution ≤ 2 ^ r.bits * r.resolution = mul-le-mul_right r.resolution (le_of_lt h) in
    omega (arith, fewer, size_add (raw.0 * r.resolution) r.offset, few)

small_in : (r : Row) → Rule r → (raw : Raw) → raw.0 < 2 ^ r.bits → SmallIfValue (Ok (class_in_spec r raw))
small_in r rule raw h = of_class (λ k. SmallIfValue (Ok k)) raw tt tt tt tt r (reading_within r raw exact_doubles rule.small h) tt

small_for : (o : Option Row) → RuleOf o → (raw : Raw) → SmallIfValue (class_for o raw)
small_for none rule raw = tt
small_for (some r) rule raw = go (leb (2 ^ r.bits) raw.0) refl
  where
    go : (b : Bool) → leb (2 ^ r.bits) raw.0 ≡ b → SmallIfValue (cond b (Err TooWide) (Ok (class_in_spec r raw)))
    go true e = tt
    go false e = small_in r rule raw (leb-false (2 ^ r.bits) raw.0 e)

-- every class of every raw count of every signal
pub small_class : (n : ℕ) (raw : Raw) → SmallIfValue (class_of_spec n raw)
unfolding class_of_spec
small_class n raw = small_for (row_of n) (rule_of n) raw

-- ---- the theorems of every value

module _ (n : ℕ) (raw : Raw) (t : Thousandths) (is : class_of_spec n raw ≡ Ok (Value t)) where
  always_fits : Small t
  always_fits = subst SmallIfValue is (small_class n raw)

  -- its thousandths turn into a double without loss
  pub value_without_loss : IsWhole (double_of t.0) t.0
  value_without_loss = without_loss t.0 always_fits

  -- the reading is rounded once
  pub value_rounded_once : in_units_spec t ≡ nearest_to t.0 1000
  value_rounded_once = rounded_once t always_fits

  -- and not at all where the thousandths are a multiple of 1000
  pub value_whole : (k : ℤ) → t.0 ≡ k *ℤ pos 1000 → IsWhole (in_units_spec t) k
  value_whole k e = whole_exact t k always_fits e
