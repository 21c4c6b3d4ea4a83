-- A signal's count, cut from the window of bits that begins with it, with its class: how the code takes signals from a frame, and no
-- promise. Assumes nothing: these are definitions.
use Rattle.std.proofs.Math.Option.{Option, none, some}
use Rattle.std.specs.Prelude.{ℕ, ◌%◌, ◌^◌, Ok, Err}
use Rattle.rows.specs.declared.Row.{Row}
use Rattle.catalogue.specs.declared.Raw.{Raw}
use Rattle.catalogue.specs.declared.Cut.{Cut}
use Rattle.catalogue.specs.declared.NoClass.TheVariants.{NotInCatalogue}
use Rattle.catalogue.specs.Find.{row_of}
use Rattle.catalogue.specs.Class.{class_in_spec}

-- the b lowest bits of a window, as a count
abbrev pub low_bits : ℕ → ℕ → Raw
low_bits b window = record { 0 = window % 2 ^ b }

-- what the window has of a signal: its own bits; where there is none, no bits, and all of the window is left
abbrev pub cut_for : Option Row → ℕ → Cut
cut_for none window = record { bits = 0; raw = record { 0 = window }; class = Err NotInCatalogue }
cut_for (some r) window = record { bits = r.bits; raw = low_bits r.bits window; class = Ok (class_in_spec r (low_bits r.bits window)) }

-- those of the signal with a number
unfoldable pub cut_of_spec : ℕ → ℕ → Cut
cut_of_spec number window = cut_for (row_of number) window
