-- What an observation of a charge has: the raw counts of eleven signals. Assumes nothing.
use Rattle.std.specs.Prelude.{ℕ, Bool, false, cond, List, [], ◌∷◌, eqb, Option, None, Some}
use Rattle.catalogue.specs.declared.Raw.{Raw}
use Rattle.charging.specs.declared.ChargeObservation.{ChargeObservation}

-- the signals' numbers, each with its raw count
abbrev pub counts_seen : ChargeObservation → List (ℕ × Raw)
counts_seen seen =
    (1708, seen.plug)
    ∷ (1605, seen.self_check)
    ∷ (311, seen.main_positive_welded)
    ∷ (313, seen.main_negative_welded)
    ∷ (325, seen.heating_positive_welded)
    ∷ (327, seen.heating_negative_welded)
    ∷ (301, seen.main_positive)
    ∷ (302, seen.main_negative)
    ∷ (1709, seen.allowed)
    ∷ (304, seen.charge_positive)
    ∷ (306, seen.charge_negative)
    ∷ []

-- the count that such a list has for a number; there is none for a number that it does not have
abbrev count_under : ℕ → List (ℕ × Raw) → Option ℕ
count_under number [] = None
count_under number (c ∷ more) = cond (eqb c.0 number) (Some c.1.0) (count_under number more)

-- the raw count of the signal with this number
abbrev pub count_seen : ℕ → ChargeObservation → Option ℕ
count_seen number seen = count_under number (counts_seen seen)

abbrev pub is_count : Option ℕ → ℕ → Bool
is_count None n = false
is_count (Some count) n = eqb count n

-- "1708 is 1", "1605 is 0" and so on
abbrev pub count_is : ℕ → ℕ → ChargeObservation → Bool
count_is number n seen = is_count (count_seen number seen) n
