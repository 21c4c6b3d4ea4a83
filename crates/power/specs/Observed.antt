-- What an observation says. Assumes nothing.
use Rattle.std.specs.Prelude.{ℕ, ◌*◌, Bool, ◌&&◌, ◌||◌, cond, false, eqb, leb, ltb, ℤ, pos, ◌+ℤ◌, neg_ℤ, Result, Ok, Err}
use Rattle.catalogue.specs.declared.Raw.{Raw}
use Rattle.power.specs.declared.Observation.{Observation}
use Rattle.power.specs.Shares.{hundredths, share_fits_spec, Share}
use Rattle.catalogue.specs.declared.Class.{Class}
use Rattle.catalogue.specs.declared.Class.TheVariants.{Value, Invalid, Absent, Error, Reserved, Outside}
use Rattle.catalogue.specs.declared.NoClass.{NoClass}
use Rattle.catalogue.specs.declared.NoClass.TheVariants.{TooWide}
use Rattle.std.specs.Int.Signed.{lt_z}

-- "relay counts .. (1 open, 2 closed)"
abbrev pub open_relay : ℕ
open_relay = 1

abbrev pub closed_relay : ℕ
closed_relay = 2

-- the three relays have these raw counts, in the order "main negative, precharge, main positive"
abbrev pub shows : ℕ → ℕ → ℕ → Observation → Bool
shows negative precharge positive seen = eqb seen.main_negative.0 negative && eqb seen.precharge.0 precharge && eqb seen.main_positive.0 positive

-- "ooo"
abbrev pub all_open_spec : Observation → Bool
all_open_spec = shows open_relay open_relay open_relay

-- "1601 as command"
abbrev pub commanded : ℕ → Observation → Bool
commanded n seen = eqb seen.command.0 n

-- "Urgent: command 3 or 1604 = 1"
abbrev pub urgent : Observation → Bool
urgent seen = commanded 3 seen || eqb seen.emergency_off.0 1

-- 42 is for a "command or 1604 over 3"
abbrev pub highest_command : ℕ
highest_command = 3

-- 43 is for a "current or voltage over 65,535"
abbrev pub highest_reading : ℕ
highest_reading = 65535

-- that count of 201 or 202 is the mark invalid; the counts below it are values (proofs/Readings.antt)
abbrev pub invalid_voltage : ℕ
invalid_voltage = highest_reading

abbrev pub valid : Raw → Bool
valid voltage = ltb voltage.0 invalid_voltage

-- "Precharge complete: both voltages valid, inside above 0", and "100 x outside >= share x inside"; with a share outside 50 to 100 never
unfoldable pub precharge_complete_spec : Raw → Raw → Share → Bool
precharge_complete_spec inside outside share =
    share_fits_spec share && valid inside && valid outside && ltb 0 inside.0 && leb (hundredths share * inside.0) (100 * outside.0)

-- "current raw 19,901 to 20,099 (under 10 A either way)"
abbrev pub under10_a : Raw → Bool
under10_a current = leb 19901 current.0 && leb current.0 20099

-- what a count of 201, 202 or 203 stands for, by its offset: a tenth of a volt or ampere for each, 65,535 invalid
abbrev pub measured_class : ℤ → Raw → Result Class NoClass
measured_class offset raw = cond (valid raw) (Ok (Value (record { 0 = pos (raw.0 * 100) +ℤ offset }))) (cond (leb 65536 raw.0) (Err TooWide) (Ok (Invalid raw)))

-- the class is a value, of more than -10 A and less than 10 A
abbrev pub value_under10_a : Result Class NoClass → Bool
value_under10_a (Ok (Value t)) = lt_z (neg_ℤ (pos 10000)) t.0 && lt_z t.0 (pos 10000)
value_under10_a (Ok (Invalid raw)) = false
value_under10_a (Ok (Absent raw)) = false
value_under10_a (Ok (Error raw)) = false
value_under10_a (Ok (Reserved raw)) = false
value_under10_a (Ok (Outside raw)) = false
value_under10_a (Err e) = false
