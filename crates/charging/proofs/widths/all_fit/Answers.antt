-- `charging::widths::all_fit` meets its contract: the eleven counts, in the order in which they are listed. Assumes nothing.
use mathlib.Core.Path.{◌≡◌, refl}
use mathlib.Core.Bool.{Bool, true, false, ◌&&◌}
use Rattle.charging.specs.declared.ChargeObservation.{ChargeObservation}
use Rattle.charging.specs.Refusals.{fits_signal, counts_fit}
use Rattle.charging.proofs.widths.all_fit.Goals as goal

in_a_row : (a b c d e f g h i j k : Bool)
    → (a && b) && (c && d && e && f) && (g && h) && (i && j && k) ≡ a && (b && (c && (d && (e && (f && (g && (h && (i && (j && (k && true))))))))))
in_a_row false b c d e f g h i j k = refl
in_a_row true false c d e f g h i j k = refl
in_a_row true true false d e f g h i j k = refl
in_a_row true true true false e f g h i j k = refl
in_a_row true true true true false f g h i j k = refl
in_a_row true true true true true false g h i j k = refl
in_a_row true true true true true true false h i j k = refl
in_a_row true true true true true true true false i j k = refl
in_a_row true true true true true true true true false j k = refl
in_a_row true true true true true true true true true false k = refl
in_a_row true true true true true true true true true true false = refl
in_a_row true true true true true true true true true true true = refl

listed : (seen : ChargeObservation)
    → (fits_signal 1708 seen.plug && fits_signal 1605 seen.self_check)
    && (fits_signal 311 seen.main_positive_welded && fits_signal 313 seen.main_negative_welded && fits_signal 325 seen.heating_positive_welded && fits_signal 327 seen.heating_negative_welded)
    && (fits_signal 301 seen.main_positive && fits_signal 302 seen.main_negative)
    && (fits_signal 1709 seen.allowed && fits_signal 304 seen.charge_positive && fits_signal 306 seen.charge_negative)
    ≡ counts_fit seen
unfolding counts_fit
listed seen =
    in_a_row
    (fits_signal 1708 seen.plug)
    (fits_signal 1605 seen.self_check)
    (fits_signal 311 seen.main_positive_welded)
    (fits_signal 313 seen.main_negative_welded)
    (fits_signal 325 seen.heating_positive_welded)
    (fits_signal 327 seen.heating_negative_welded)
    (fits_signal 301 seen.main_positive)
    (fits_signal 302 seen.main_negative)
    (fits_signal 1709 seen.allowed)
    (fits_signal 304 seen.charge_positive)
    (fits_signal 306 seen.charge_negative)

pub returns : goal.returns
returns c = simp (c.plug_and_self_check_fit.ensures, c.welds_fit.ensures, c.main_relays_fit.ensures, c.charging_fits.ensures) (listed c.args.seen)
