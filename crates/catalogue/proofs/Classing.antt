-- What is cut for a signal goes by the signal's shape, and has the signal's bits; where the whole number is the count, the class is that
-- of the number, and otherwise the number is too wide. Assumes nothing.
use mathlib.Core.Path.{◌≡◌, refl, sym, ap, ◌∙◌}
use mathlib.Core.Bool.{cond}
use mathlib.Core.Option.{Option, none, some}
use Prim.Native.Nat.{ℕ, ◌%◌, ◌^◌, ◌≤◌, ◌<◌}
use native.Mathlib.Nat.{mod-lt, mod-eq_of_lt}
use native.Mathlib.Decide.{dec_le}
use native.Mathlib.Omega.{arith}
use lib.Pow.{pow_pos}
use borrow.Author.Tests.{le-leb, lt-leb}
use Rattle.rows.specs.declared.Row.{Row}
use Rattle.catalogue.specs.declared.NoClass.TheVariants.{TooWide}
use Rattle.std.specs.Prelude.{Ok, Err}
use Rattle.catalogue.specs.declared.Cut.{Cut}
use Rattle.catalogue.specs.Find.{bits_in_spec, bits_of_spec, row_of}
use Rattle.catalogue.specs.Shapes.{shape_of, row_shaped, forget}
use Rattle.catalogue.specs.Class.{class_in_spec, class_for, class_of_spec}
use Rattle.catalogue.specs.Cut.{low_bits, cut_for, cut_of_spec}
use Rattle.catalogue.proofs.Shaped.{by_shape}

-- ---- by the shape

same_cut : (o : Option Row) (window : ℕ) → cut_for o window ≡ cut_for (forget o) window
same_cut none window = refl
same_cut (some r) window = refl

cut_by_shape : (n window : ℕ) → cut_for (row_shaped (shape_of n)) window ≡ cut_of_spec n window
unfolding cut_of_spec
cut_by_shape n window =
    same_cut (row_shaped (shape_of n)) window
    ∙ sym (same_cut (row_of n) window ∙ ap (λ (o : Option Row). cut_for o window) (by_shape n))

-- what is cut in a signal's shape is what is cut for it
pub shaped_cut : (n s window : ℕ) {k : Cut} → s ≡ shape_of n → k ≡ cut_for (row_shaped s) window → k ≡ cut_of_spec n window
shaped_cut n s window e h = h ∙ ap (λ (m : ℕ). cut_for (row_shaped m) window) e ∙ cut_by_shape n window

-- ---- a whole number

-- a number is its own b lowest bits just where it is below 2 ^ b
pub whole_below : (b v : ℕ) → v % 2 ^ b ≡ v → v < 2 ^ b
whole_below b v e = omega (arith, e, mod-lt v (pow_pos b))

pub part_above : (b v : ℕ) → (v % 2 ^ b ≡ v → ⊥) → 2 ^ b ≤ v
part_above b v e = go (dec_le (2 ^ b) v)
  where
    go : Dec (2 ^ b ≤ v) → 2 ^ b ≤ v
    go (yes h) = h
    go (no h) = absurd (e (mod-eq_of_lt (omega (arith, h))))

whole_class : (o : Option Row) (window : ℕ) → (cut_for o window).raw.0 ≡ window → (cut_for o window).class ≡ class_for o (record { 0 = window })
whole_class none window e = refl
whole_class (some r) window e =
    ap (λ (n : ℕ). Ok (class_in_spec r (record { 0 = n }))) e
    ∙ sym (ap (λ (t : _). cond t (Err TooWide) (Ok (class_in_spec r (record { 0 = window })))) (lt-leb (2 ^ r.bits) window (whole_below r.bits window e)))

part_wide : (o : Option Row) (window : ℕ) → ((cut_for o window).raw.0 ≡ window → ⊥) → Err TooWide ≡ class_for o (record { 0 = window })
part_wide none window e = absurd (e refl)
part_wide (some r) window e = sym (ap (λ (t : _). cond t (Err TooWide) (Ok (class_in_spec r (record { 0 = window })))) (le-leb (2 ^ r.bits) window (part_above r.bits window e)))

-- the class of a number that is the count, and of one that is more
pub class_cut : (n window : ℕ) → (cut_of_spec n window).raw.0 ≡ window → (cut_of_spec n window).class ≡ class_of_spec n (record { 0 = window })
unfolding cut_of_spec class_of_spec
class_cut n window = whole_class (row_of n) window

pub cut_too_wide : (n window : ℕ) → ((cut_of_spec n window).raw.0 ≡ window → ⊥) → Err TooWide ≡ class_of_spec n (record { 0 = window })
unfolding cut_of_spec class_of_spec
cut_too_wide n window = part_wide (row_of n) window

-- ---- a signal of the catalogue

bits_in : (o : Option Row) (window : ℕ) → (cut_for o window).bits ≡ bits_in_spec o
bits_in none window = refl
bits_in (some r) window = refl

count_in : (o : Option Row) (window : ℕ) → 0 < bits_in_spec o → (cut_for o window).raw.0 ≡ window % 2 ^ bits_in_spec o
count_in none window h = absurd (omega (arith, h))
count_in (some r) window h = refl

class_within : (o : Option Row) (window : ℕ) → 0 < bits_in_spec o → (cut_for o window).class ≡ class_for o (record { 0 = window % 2 ^ bits_in_spec o })
class_within none window h = absurd (omega (arith, h))
class_within (some r) window h = sym (ap (λ (t : _). cond t (Err TooWide) (Ok (class_in_spec r (low_bits r.bits window)))) (lt-leb (2 ^ r.bits) (window % 2 ^ r.bits) (mod-lt window (pow_pos r.bits))))

-- its bits, its count and the class of that
pub cut_bits : (n window : ℕ) → (cut_of_spec n window).bits ≡ bits_of_spec n
unfolding cut_of_spec bits_of_spec
cut_bits n window = bits_in (row_of n) window

pub cut_count : (n window : ℕ) → 0 < bits_of_spec n → (cut_of_spec n window).raw.0 ≡ window % 2 ^ bits_of_spec n
unfolding cut_of_spec bits_of_spec
cut_count n window = count_in (row_of n) window

pub cut_class : (n window : ℕ) → 0 < bits_of_spec n → (cut_of_spec n window).class ≡ class_of_spec n (record { 0 = window % 2 ^ bits_of_spec n })
unfolding cut_of_spec bits_of_spec class_of_spec
cut_class n window = class_within (row_of n) window
