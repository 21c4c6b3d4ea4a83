-- A placed signal is in the catalogue and its count fits it, so that what is read has one of the six classes. Assumes nothing.
use mathlib.Core.Path.{◌≡◌}
use mathlib.Core.Bool.{true}
use mathlib.Core.List.{List}
use mathlib.Core.Option.{Option, none, some}
use Prim.Native.Nat.{ℕ, ◌^◌, ◌≤◌, ◌<◌}
use native.Mathlib.Omega.{arith}
use lib.ListN.{length}
use borrow.Author.Tests.{lt-leb}
use Rattle.bits.proofs.Weights.{raw_lt}
use Rattle.books.specs.Book.{Placement, Message}
use Rattle.books.specs.Words.{messages_of, messages_taken_spec}
use Rattle.books.proofs.Columns.{taken_stands}
use Rattle.rows.specs.declared.Row.{Row}
use Rattle.catalogue.specs.declared.Raw.{Raw}
use Rattle.catalogue.specs.Find.{row_of, bits_in_spec, bits_of_spec}
use Rattle.catalogue.specs.Class.{class_for, class_of_spec, class_number}
use Rattle.catalogue.proofs.OneClass.{not_refused}
use Rattle.framing.specs.Messages.{message_with, count_of, placed_class}
use Rattle.framing.specs.Demand.{placement_at}
use Rattle.framing.proofs.WellPlaced.{Sits, sits_at, sound_message}

known_class : (o : Option Row) (raw : Raw) → 1 ≤ bits_in_spec o → raw.0 < 2 ^ bits_in_spec o → class_number (class_for o raw) ≡ 0
known_class none raw h k = absurd (omega arith)
known_class (some r) raw h k = rw (lt-leb (2 ^ r.bits) raw.0 k) (not_refused raw r)

pub read_class : (frame : List ℕ) (p : Placement) → Sits p → class_number (placed_class frame p) ≡ 0
unfolding class_of_spec bits_of_spec
read_class frame p s = known_class (row_of p.number) (record { 0 = count_of frame p }) s.fits.some (raw_lt frame p.start (bits_of_spec p.number))

-- each signal that a message of a taken book places
pub placed_class_law : (words : List ℕ) (identifier : ℕ) (m : Message) → messages_taken_spec words ≡ true → message_with identifier (messages_of words) ≡ some m
    → (frame : List ℕ) (i : ℕ) → i < length m.placements → class_number (placed_class frame (placement_at m i)) ≡ 0
placed_class_law words identifier m t found frame i h =
    read_class frame (placement_at m i)
    (sits_at (sound_message identifier (messages_of words) m (taken_stands words t).1 found) (record { number = 0; start = 0 }) i h)
