-- A stand-in that the catalogue throws out: one class for everything. Assumes nothing.
use mathlib.Core.Path.{◌≡◌, refl, sym, ◌∙◌}
use Prim.Native.Nat.{ℕ}
use native.Mathlib.Omega.{arith}
use Rattle.rows.specs.Rows.{rows}
use Rattle.catalogue.specs.declared.Raw.{Raw}
use Rattle.catalogue.specs.Find.{row_of}
use Rattle.catalogue.specs.Class.{class_of_spec, class_number, between}
use Rattle.worked.specs.Kinds.{Kind, value, outside, kind_of}

value_204 : kind_of (class_of_spec 204 (record { 0 = 250 })) ≡ value
unfolding class_of_spec row_of rows between
value_204 = refl

outside_204 : kind_of (class_of_spec 204 (record { 0 = 251 })) ≡ outside
unfolding class_of_spec row_of rows between
outside_204 = refl

-- no class is that of every count that is not refused: 204 has 250 as a value and 251 outside
pub one_class_for_all : (k : Kind) → ((n : ℕ) (raw : Raw) → class_number (class_of_spec n raw) ≡ 0 → kind_of (class_of_spec n raw) ≡ k) → ⊥
unfolding class_of_spec row_of rows between
one_class_for_all k same =
    let e : value ≡ outside = sym value_204 ∙ same 204 (record { 0 = 250 }) refl ∙ sym (same 204 (record { 0 = 251 }) refl) ∙ outside_204 in
    let z : ◌≡◌ {A = ℕ} 0 1 = cc in
    omega arith
