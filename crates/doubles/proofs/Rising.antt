-- "readings rise strictly with the raw count, so no two counts of a signal show alike": beyond the request. No signal's reading has more
-- than 2 ^ 42 thousandths, by one computed test of the table. Assumes nothing.
use mathlib.Core.Path.{◌≡◌, refl, subst, subst⁻¹}
use mathlib.Core.Bool.{Bool, true, false, cond, ◌&&◌}
use mathlib.Core.List.{List, [], ◌∷◌}
use mathlib.Core.Option.{Option, none, some}
use Prim.Native.Nat.{ℕ, zero, suc, ◌+◌, ◌*◌, ◌^◌, ◌≤◌, ◌<◌}
use native.Mathlib.Nat.{le_of_suc-le-suc, not-suc-le-zero}
use lib.Dec.{T, leb, leb→le}
use lib.IntN.{nat_abs}
use lib.ListN.{length, get_or}
use lib.Ieee.{Float, lt}
use borrow.Author.Tests.{leb-false}
use Rattle.std.specs.Prelude.{Ok, Err}
use Rattle.rows.specs.declared.Row.{Row}
use Rattle.rows.specs.Rows.{rows, blank}
use Rattle.catalogue.specs.declared.Raw.{Raw}
use Rattle.catalogue.specs.declared.Thousandths.{Thousandths}
use Rattle.catalogue.specs.declared.Class.TheVariants.{Value}
use Rattle.catalogue.specs.declared.NoClass.TheVariants.{TooWide}
use Rattle.catalogue.specs.Find.{row_of}
use Rattle.catalogue.specs.Class.{reading_of, class_in_spec, class_for, class_of_spec}
use Rattle.catalogue.proofs.Found.{FoundIn, found, RuleOf, rule_of}
use Rattle.catalogue.proofs.OneClass.{of_class}
use Rattle.catalogue.proofs.Readings.{rising}
use Rattle.doubles.specs.Doubles.{in_units_spec, nearest_to, OfValue}
use Rattle.doubles.proofs.Spaced.{limit, spaced}
use Rattle.doubles.proofs.Values.{reading_within, value_rounded_once}

-- ---- the table

-- no reading of a row is larger
abbrev most : Row → ℕ
most r = 2 ^ r.bits * r.resolution + nat_abs r.offset

abbrev Few : Row → Type 0
Few r = most r ≤ limit

few_in : List Row → Bool
few_in [] = true
few_in (r ∷ rs) = leb (most r) limit && few_in rs

both : (a b : Bool) → T (a && b) → T a × T b
both true b t = (tt, t)
both false b t = absurd t

few_at : (rs : List Row) → T (few_in rs) → (i : ℕ) → i < length rs → Few (get_or rs i blank)
unfolding few_in
few_at [] t i h = absurd (not-suc-le-zero h)
few_at (r ∷ rs) t zero h = leb→le (most r) limit (both (leb (most r) limit) (few_in rs) t).0
few_at (r ∷ rs) t (suc i) h = few_at rs (both (leb (most r) limit) (few_in rs) t).1 i (le_of_suc-le-suc h)

all_few : T (few_in rows)
unfolding rows few_in
all_few = tt

abbrev FewOf : Option Row → Type 0
FewOf none = Unit
FewOf (some r) = Few r

few_of : (o : Option Row) (n : ℕ) → FoundIn n rows o → FewOf o
few_of none n f = tt
few_of (some r) n f = subst Few f.1.1.0 (few_at rows all_few f.0 f.1.0)

-- ---- a value is the reading of its count

module _ (r : Row) (raw : Raw) (few : Few r) where
  abbrev Is : Thousandths → Type 0
  Is t = (t ≡ reading_of r raw) × (nat_abs t.0 ≤ limit)

  of_row : (b : Bool) → leb (2 ^ r.bits) raw.0 ≡ b → OfValue Is (cond b (Err TooWide) (Ok (class_in_spec r raw)))
  of_row true e = tt
  of_row false e = of_class (λ k. OfValue Is (Ok k)) raw tt tt tt tt r (refl, reading_within r raw limit few (leb-false (2 ^ r.bits) raw.0 e)) tt

  is_reading : (t : Thousandths) → class_for (some r) raw ≡ Ok (Value t) → Is t
  is_reading t e = subst (OfValue Is) e (of_row (leb (2 ^ r.bits) raw.0) refl)

-- ---- two counts of a signal

in_row : (o : Option Row) → RuleOf o → FewOf o → (raw raw' : Raw) (t t' : Thousandths) → class_for o raw ≡ Ok (Value t) → class_for o raw' ≡ Ok (Value t') → raw.0 < raw'.0
    → T (lt (nearest_to t.0 1000) (nearest_to t'.0 1000))
in_row none rule few raw raw' t t' e e' h = absurd (subst (OfValue (λ t. ⊥)) e tt)
in_row (some r) rule few raw raw' t t' e e' h =
    let p = is_reading r raw few t e in
    let q = is_reading r raw' few t' e' in
    spaced t.0 t'.0 p.1 q.1 (rw (p.0, q.0) (rising r rule raw raw' h))

-- a higher count shows a higher double
pub readings_rise : (n : ℕ) (raw raw' : Raw) (t t' : Thousandths) → class_of_spec n raw ≡ Ok (Value t) → class_of_spec n raw' ≡ Ok (Value t') → raw.0 < raw'.0 → T (lt (in_units_spec t) (in_units_spec t'))
unfolding class_of_spec
readings_rise n raw raw' t t' e e' h =
    subst⁻¹ (λ (x : Float). T (lt x (in_units_spec t'))) (value_rounded_once n raw t e)
    (subst⁻¹ (λ (x : Float). T (lt (nearest_to t.0 1000) x)) (value_rounded_once n raw' t' e')
    (in_row (row_of n) (rule_of n) (few_of (row_of n) n (found n)) raw raw' t t' e e' h))
