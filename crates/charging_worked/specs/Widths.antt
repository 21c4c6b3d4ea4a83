-- How many counts each signal has room for: three bits of 1708, one of each weld, two of the others. Assumes nothing.
use Rattle.std.specs.Prelude.{ℕ, Bool, true, false, ◌&&◌, List, [], ◌∷◌, ltb, Option, None, Some}
use Rattle.charging.specs.declared.ChargeObservation.{ChargeObservation}
use Rattle.charging.specs.Observed.{count_seen}

-- the signals, each with the lowest count that is too wide for it
abbrev pub width_limits : List (ℕ × ℕ)
width_limits =
    (1708, 8)
    ∷ (1605, 4)
    ∷ (311, 2)
    ∷ (313, 2)
    ∷ (325, 2)
    ∷ (327, 2)
    ∷ (301, 4)
    ∷ (302, 4)
    ∷ (1709, 4)
    ∷ (304, 4)
    ∷ (306, 4)
    ∷ []

-- a count is below its limit
abbrev is_below : Option ℕ → ℕ → Bool
is_below None limit = false
is_below (Some count) limit = ltb count limit

-- each count of the signals in a list is
abbrev pub each_below : List (ℕ × ℕ) → ChargeObservation → Bool
each_below [] seen = true
each_below (w ∷ more) seen = is_below (count_seen w.0 seen) w.1 && each_below more seen
