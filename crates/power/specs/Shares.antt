-- The share of the voltage inside that precharge has to reach (document 02, P6). Assumes nothing.
use Rattle.std.specs.Prelude.{ℕ, Bool, ◌&&◌, leb, Option, Some, None}
use Rattle.power.specs.declared.Observation.{Observation}

-- a share that the caller names, or that none is given
abbrev pub Share : Type 0
Share = Option ℕ

-- "a number given to the monitor, .. and 90 where the caller gives none": how many hundredths
abbrev pub hundredths : Share → ℕ
hundredths (Some n) = n
hundredths None = 90

-- "50 to 100"; 44 is for "a share outside 50 to 100"
abbrev pub share_fits_spec : Share → Bool
share_fits_spec share = leb 50 (hundredths share) && leb (hundredths share) 100

-- the same observation, with this share
abbrev pub seen_with : Share → Observation → Observation
seen_with share seen =
    record {
      main_negative = seen.main_negative;
      precharge = seen.precharge;
      main_positive = seen.main_positive;
      command = seen.command;
      emergency_off = seen.emergency_off;
      current = seen.current;
      inside = seen.inside;
      outside = seen.outside;
      share = share;
    }
