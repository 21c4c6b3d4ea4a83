-- 81 in numbers: the eleven signals are in the catalogue, with these bits, so an observation is refused exactly where 1708 is 8 or more, a weld 2
-- or more, or another count 4 or more. Assumes nothing.
use mathlib.Core.Path.{◌≡◌, refl, ap, ◌∙◌}
use mathlib.Core.Bool.{Bool, true, false, not, cond}
use mathlib.Core.Option.{some}
use Prim.Native.Nat.{ℕ, ◌^◌}
use borrow.Author.Tests.{ltb-true, ltb-false}
use lib.Dec.{eqb, ltb}
use Rattle.rows.specs.declared.Row.{Row}
use Rattle.rows.specs.Rows.{rows}
use Rattle.catalogue.specs.declared.Raw.{Raw}
use Rattle.catalogue.specs.Find.{row_of}
use Rattle.catalogue.specs.Class.{class_number}
use Rattle.catalogue.proofs.OneClass.{too_wide, in_row, not_refused}
use Rattle.charging.specs.declared.ChargeObservation.{ChargeObservation}
use Rattle.charging.specs.declared.ChargeState.{ChargeState}
use Rattle.charging.specs.Refusals.{charge_refusal, fits_signal, counts_fit, charge_step_of}
use Rattle.charging.proofs.Answers.{refused}
use Rattle.charging_worked.specs.Widths.{width_limits, each_below}

by_bits : (n : ℕ) (raw : Raw) (r : Row) → row_of n ≡ some r → fits_signal n raw ≡ ltb raw.0 (2 ^ r.bits)
by_bits n raw r e = go (ltb raw.0 (2 ^ r.bits)) refl
  where
    go : (fits : Bool) → ltb raw.0 (2 ^ r.bits) ≡ fits → fits_signal n raw ≡ fits
    go true h = ap (λ (k : ℕ). not (eqb k 26)) (ap class_number (in_row n raw r e (ltb-true raw.0 (2 ^ r.bits) h)) ∙ not_refused raw r)
    go false h = ap (λ (k : ℕ). not (eqb k 26)) (ap class_number (too_wide n raw r e (ltb-false raw.0 (2 ^ r.bits) h)))

of_1708 : (raw : Raw) → fits_signal 1708 raw ≡ ltb raw.0 8
unfolding row_of rows
of_1708 raw = by_bits 1708 raw _ refl

of_1605 : (raw : Raw) → fits_signal 1605 raw ≡ ltb raw.0 4
unfolding row_of rows
of_1605 raw = by_bits 1605 raw _ refl

of_311 : (raw : Raw) → fits_signal 311 raw ≡ ltb raw.0 2
unfolding row_of rows
of_311 raw = by_bits 311 raw _ refl

of_313 : (raw : Raw) → fits_signal 313 raw ≡ ltb raw.0 2
unfolding row_of rows
of_313 raw = by_bits 313 raw _ refl

of_325 : (raw : Raw) → fits_signal 325 raw ≡ ltb raw.0 2
unfolding row_of rows
of_325 raw = by_bits 325 raw _ refl

of_327 : (raw : Raw) → fits_signal 327 raw ≡ ltb raw.0 2
unfolding row_of rows
of_327 raw = by_bits 327 raw _ refl

of_301 : (raw : Raw) → fits_signal 301 raw ≡ ltb raw.0 4
unfolding row_of rows
of_301 raw = by_bits 301 raw _ refl

of_302 : (raw : Raw) → fits_signal 302 raw ≡ ltb raw.0 4
unfolding row_of rows
of_302 raw = by_bits 302 raw _ refl

of_1709 : (raw : Raw) → fits_signal 1709 raw ≡ ltb raw.0 4
unfolding row_of rows
of_1709 raw = by_bits 1709 raw _ refl

of_304 : (raw : Raw) → fits_signal 304 raw ≡ ltb raw.0 4
unfolding row_of rows
of_304 raw = by_bits 304 raw _ refl

of_306 : (raw : Raw) → fits_signal 306 raw ≡ ltb raw.0 4
unfolding row_of rows
of_306 raw = by_bits 306 raw _ refl

pub within_widths : (seen : ChargeObservation) → counts_fit seen ≡ each_below width_limits seen
unfolding counts_fit
within_widths seen = simp (of_1708, of_1605, of_311, of_313, of_325, of_327, of_301, of_302, of_1709, of_304, of_306)

-- a step is refused exactly where a count is not below its limit, in every state
pub refused_81 : (s : ChargeState) (seen : ChargeObservation) → charge_refusal (charge_step_of s seen).answer ≡ cond (each_below width_limits seen) 0 81
refused_81 s seen = refused s seen ∙ ap (λ (fits : Bool). cond fits 0 81) (within_widths seen)
