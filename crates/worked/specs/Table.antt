-- The worked examples of document 01 ("Proved table"): what is asked of the definitions, and what they have to answer. Assumes nothing.
use Rattle.std.specs.Prelude.{Bool, true, false, Some, List, [], ◌∷◌, ℕ, ℤ, pos, neg_ℤ, Result, Ok, Err}
use Rattle.catalogue.specs.declared.Class.{Class}
use Rattle.catalogue.specs.declared.Class.TheVariants as class
use Rattle.catalogue.specs.declared.NoClass.{NoClass}
use Rattle.catalogue.specs.Class.{class_of_spec}
use Rattle.bits.specs.Checksum.{checksum_of}
use Rattle.power.specs.Observed.{precharge_complete_spec}

pub data Question : Type 0 where
  -- the class of a raw count of a signal
  count : ℕ → ℕ → Question
  -- the checksum under an identifier: bytes 0 to 6, and byte 7, whose low four bits are the counter
  checksum : ℕ → ℕ → ℕ → Question
  -- precharge with the share named, by the voltages inside and outside
  precharge : ℕ → ℕ → ℕ → Question

pub data WorkedAnswer : Type 0 where
  value : ℤ → WorkedAnswer
  invalid : WorkedAnswer
  absent : WorkedAnswer
  error : WorkedAnswer
  reserved : WorkedAnswer
  outside : WorkedAnswer
  refused : WorkedAnswer
  check : ℕ → WorkedAnswer
  complete : Bool → WorkedAnswer

abbrev pub named : Result Class NoClass → WorkedAnswer
named (Ok (class.Value t)) = value t.0
named (Ok (class.Invalid r)) = invalid
named (Ok (class.Absent r)) = absent
named (Ok (class.Error r)) = error
named (Ok (class.Reserved r)) = reserved
named (Ok (class.Outside r)) = outside
named (Err e) = refused

abbrev pub frame : ℕ → ℕ → List ℕ
frame byte last = byte ∷ byte ∷ byte ∷ byte ∷ byte ∷ byte ∷ byte ∷ last ∷ []

abbrev pub answer : Question → WorkedAnswer
answer (count number raw) = named (class_of_spec number (record { 0 = raw }))
answer (checksum identifier byte last) = check (checksum_of identifier (frame byte last))
answer (precharge share volts beyond) = complete (precharge_complete_spec (record { 0 = volts }) (record { 0 = beyond }) (Some share))

pub record Worked : Type 0 where
  pub asked : Question
  pub given : WorkedAnswer

abbrev pub asks : Question → WorkedAnswer → Worked
asks q a = record { asked = q; given = a }

-- the identifier 18FFFAF3
abbrev pub worked_identifier : ℕ
worked_identifier = 419429107

-- the 15 of them; the two precharges, "inside 6000: 5700 complete, 5699 not", name the 95 that they relied on (document 02, P6)
unfoldable pub worked : List Worked
worked =
    asks (count 203 19999) (value (neg_ℤ (pos 100)))
    ∷ asks (count 203 65535) invalid
    ∷ asks (count 204 250) (value (pos 100000))
    ∷ asks (count 204 251) outside
    ∷ asks (count 505 0) (value (neg_ℤ (pos 40000)))
    ∷ asks (count 505 253) absent
    ∷ asks (count 505 251) outside
    ∷ asks (count 710 65535) (value (pos 65535))
    ∷ asks (count 1306 48) (value (pos 12000))
    ∷ asks (count 1306 49) outside
    ∷ asks (count 1705 2) invalid
    ∷ asks (checksum worked_identifier 0 0) (check 4)
    ∷ asks (checksum worked_identifier 255 15) (check 5)
    ∷ asks (precharge 95 6000 5700) (complete true)
    ∷ asks (precharge 95 6000 5699) (complete false)
    ∷ []
