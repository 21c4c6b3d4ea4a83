-- "Raw limits = (printed limit - offset) / resolution, exact for every row but 1301 to 1304." The offset is the row's: of 705 and 706 the
-- corrected one, 0, with which the printed 1 to 255 are raw 1 to 255 (document 02, P2). Assumes nothing.
use Rattle.std.specs.Prelude.{◌≡◌, Bool, cond, ◌&&◌, List, [], ◌∷◌, ℕ, ◌*◌, ◌≤◌, eqb, leb, ℤ, pos, ◌+ℤ◌, ◌-ℤ◌}
use Rattle.std.proofs.Math.Option.{Option, none, some}
use Rattle.std.specs.Int.Signed.{quot_z, rem_z}
use Rattle.rows.specs.declared.Row.{Row}
use Rattle.rows.specs.PrintedLimits.{PrintedLimits, prints, printed_limits}

-- what is printed for the number n, if the list has it
abbrev pub limits_in : ℕ → List PrintedLimits → Option PrintedLimits
limits_in n [] = none
limits_in n (p ∷ ps) = cond (eqb p.number n) (some p) (limits_in n ps)

-- the printed limits of the signal with the number n, if it has some
unfoldable pub limits_of : ℕ → Option PrintedLimits
limits_of n = limits_in n printed_limits

-- raw x resolution + offset
abbrev pub raw_reading : Row → ℕ → ℤ
raw_reading r raw = pos (raw * r.resolution) +ℤ r.offset

-- 1301 to 1304, which document 01 excepts
abbrev pub is_version_row : Row → Bool
is_version_row r = leb 1301 r.number && leb r.number 1304

-- what the limits of rows read as, in their order, those of 1301 to 1304 left out
unfoldable pub limit_readings : List Row → List PrintedLimits
limit_readings [] = []
limit_readings (r ∷ rs) =
    cond (is_version_row r) (limit_readings rs) (prints r.number (raw_reading r r.lowest) (raw_reading r r.highest) ∷ limit_readings rs)

-- the raw count is (limit - offset) / resolution, and nothing is left over; so it reads as the limit
pub record IsRawLimit (r : Row) (limit : ℤ) (raw : ℕ) : Type 0 where
  pub quotient : quot_z (limit -ℤ r.offset) (pos r.resolution) ≡ pos raw
  pub exact : rem_z (limit -ℤ r.offset) (pos r.resolution) ≡ pos 0
  pub reads : raw_reading r raw ≡ limit

-- a row and what is printed for it: its lowest and highest raw count are those of the printed limits; 1301 to 1304 are excepted
abbrev pub RawLimits : Row → Option PrintedLimits → Type 0
RawLimits r (some p) = IsRawLimit r p.lowest r.lowest × IsRawLimit r p.highest r.highest
RawLimits r none = (1301 ≤ r.number) × (r.number ≤ 1304)
