-- The raw limits of every row are those of its printed limits: one equation over the whole table, which is computed, and a law to each row.
-- Assumes nothing.
use mathlib.Core.Path.{◌≡◌, refl, sym, ap, ◌∙◌, subst}
use mathlib.Core.Bool.{Bool, true, false, cond, and-eq-true_iff}
use mathlib.Core.List.{List, [], ◌∷◌, map}
use mathlib.Core.Option.{Option, none, some}
use Prim.Native.Nat.{ℕ, zero, suc, ◌*◌, ◌<◌}
use native.Mathlib.Nat.{le_of_suc-le-suc, not-suc-le-zero, mul-div_cancel, mul-mod_left}
use lib.Dec.{leb}
use lib.IntN.{ℤ, pos, ◌-ℤ◌, +ℤ-neg_ℤ_cancel}
use lib.ListN.{length, get_or}
use lib.Signed.{quot_z, rem_z}
use borrow.Author.Tests.{leb-true}
use Rattle.rows.specs.declared.Row.{Row}
use Rattle.rows.specs.Rows.{rows, blank}
use Rattle.rows.specs.PrintedLimits.{PrintedLimits, prints, printed_limits}
use Rattle.rows.specs.RawLimits.{limits_of, raw_reading, is_version_row, limit_readings, IsRawLimit, RawLimits}
use Rattle.rows.proofs.Whole.{count, rule_at}

-- the readings of a row's raw limits; none for 1301 to 1304
abbrev readings : Row → Option PrintedLimits
readings r = cond (is_version_row r) none (some (prints r.number (raw_reading r r.lowest) (raw_reading r r.highest)))

-- the list of what is printed is whole, and has nothing else: the readings of the raw limits of every row but those four
pub whole_list : printed_limits ≡ limit_readings rows
unfolding rows printed_limits limit_readings
whole_list = refl

-- what is printed for each row are the readings of its raw limits
all_printed : map (λ (r : Row). limits_of r.number) rows ≡ map readings rows
unfolding rows limits_of printed_limits
all_printed = refl

-- ---- from a reading back to the count

raw_limit : (r : Row) (raw : ℕ) → 0 < r.resolution → IsRawLimit r (raw_reading r raw) raw
raw_limit r raw h =
    let less : raw_reading r raw -ℤ r.offset ≡ pos (raw * r.resolution) = +ℤ-neg_ℤ_cancel (pos (raw * r.resolution)) r.offset in
    record {
      quotient = ap (λ (z : ℤ). quot_z z (pos r.resolution)) less ∙ ap pos (mul-div_cancel raw h);
      exact = ap (λ (z : ℤ). rem_z z (pos r.resolution)) less ∙ ap pos (mul-mod_left raw r.resolution);
      reads = refl;
    }

raw_limits_by : (r : Row) → 0 < r.resolution → RawLimits r (readings r)
raw_limits_by r h = go (is_version_row r) refl
  where
    go : (b : Bool) → is_version_row r ≡ b → RawLimits r (cond b none (some (prints r.number (raw_reading r r.lowest) (raw_reading r r.highest))))
    go true e =
        let both = (and-eq-true_iff (leb 1301 r.number) (leb r.number 1304)).0 e in
        (leb-true 1301 r.number both.0, leb-true r.number 1304 both.1)
    go false e = (raw_limit r r.lowest h, raw_limit r r.highest h)

-- ---- at each row

-- what a column of options has at a place within the table
in_column : (f : Row → Option PrintedLimits) (rs : List Row) (i : ℕ) → i < length rs → get_or (map f rs) i none ≡ f (get_or rs i blank)
in_column f [] i h = absurd (not-suc-le-zero h)
in_column f (r ∷ rs) zero h = refl
in_column f (r ∷ rs) (suc i) h = in_column f rs i (le_of_suc-le-suc h)

printed_at : (i : ℕ) → i < length rows → limits_of (get_or rows i blank).number ≡ readings (get_or rows i blank)
printed_at i h =
    sym (in_column (λ (r : Row). limits_of r.number) rows i h)
    ∙ ap (λ (ps : List (Option PrintedLimits)). get_or ps i none) all_printed
    ∙ in_column readings rows i h

pub raw_limits : (i : ℕ) → i < 199 → RawLimits (get_or rows i blank) (limits_of (get_or rows i blank).number)
raw_limits i h =
    let r = get_or rows i blank in
    subst (RawLimits r) (sym (printed_at i (subst (λ (n : ℕ). i < n) (sym count) h))) (raw_limits_by r (rule_at i h).some_step)
