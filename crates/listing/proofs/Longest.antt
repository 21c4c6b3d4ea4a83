-- No printout under a taken book is longer than 4,096 bytes: a line for each signal, of which a message has at most 64. Assumes nothing.
use mathlib.Core.Path.{◌≡◌, refl, ap}
use mathlib.Core.Bool.{Bool, true, false, cond}
use mathlib.Core.List.{List}
use mathlib.Core.Option.{Option, none, some}
use Prim.Native.Nat.{ℕ, ◌*◌, ◌≤◌}
use native.Mathlib.Omega.{arith}
use lib.Dec.{eqb}
use lib.ListN.{length, length-append}
use Rattle.bits.specs.Frame.{frame_bytes}
use Rattle.books.specs.Book.{Placement, Message}
use Rattle.books.specs.Words.{messages_of, messages_taken_spec}
use Rattle.books.proofs.Columns.{taken_stands}
use Rattle.frame_lines.specs.Meaning.{FrameMeaning, frame, ill_formed_spec, frame_line_says}
use Rattle.framing.specs.Messages.{message_with, count_of, placed_class}
use Rattle.framing.specs.Reading.{checksum_holds}
use Rattle.framing.proofs.Few.{few_signals}
use Rattle.framing.proofs.WellPlaced.{WellPlaced, sound_message}
use Rattle.signal_lines.specs.declared.figures.Figures.{Figures}
use Rattle.signal_lines.specs.Printed.{reading_line, refused_frame_line, listed_line_room}
use Rattle.signal_lines.proofs.IllFormed.{spelt}
use Rattle.signal_lines.proofs.Lengths.{reading_short, refused_short}
use Rattle.listing.specs.Printout.{reading_lines, message_listing, frame_listing, printout_of, printout}
use Rattle.listing.specs.Together.{longest_printout}
use Rattle.listing.proofs.Carried.{class_fits, number_small}

signals_short : (figures : Figures) (identifier : ℕ) (bytes : List ℕ) {ps : List Placement} → WellPlaced ps → length (reading_lines figures identifier bytes ps) ≤ listed_line_room * length ps
unfolding reading_lines
signals_short figures identifier bytes WellPlaced.none = omega arith
signals_short figures identifier bytes (WellPlaced.more {p} {ps} s b r) =
    let line : length (reading_line figures identifier p.number (placed_class bytes p)) ≤ listed_line_room =
    reading_short identifier p.number (omega (arith, number_small p.number s.fits.some)) figures (placed_class bytes p) (class_fits p.number (record { 0 = count_of bytes p })) in
    omega (arith, line, signals_short figures identifier bytes r, length-append (reading_line figures identifier p.number (placed_class bytes p)) (reading_lines figures identifier bytes ps))

module _ (figures : Figures) (words : List ℕ) (t : messages_taken_spec words ≡ true) where
  message_short : (identifier : ℕ) (bytes : List ℕ) → length (message_listing figures identifier bytes (message_with identifier (messages_of words))) ≤ longest_printout
  unfolding message_listing
  message_short identifier bytes = known (message_with identifier (messages_of words)) refl
    where
      check : (m : Message) (b : Bool) → message_with identifier (messages_of words) ≡ some m
          → length (cond b (reading_lines figures identifier bytes m.placements) (refused_frame_line identifier 23)) ≤ longest_printout
      check m true e = omega (arith, signals_short figures identifier bytes (sound_message identifier (messages_of words) m (taken_stands words t).1 e), few_signals words identifier m t e)
      check m false e = omega (arith, refused_short identifier 23 (omega arith))

      known : (o : Option Message) → message_with identifier (messages_of words) ≡ o → length (message_listing figures identifier bytes o) ≤ longest_printout
      known none e = omega (arith, refused_short identifier 22 (omega arith))
      known (some m) e = check m (checksum_holds m bytes) e

  frame_short : (identifier : ℕ) (bytes : List ℕ) → length (frame_listing figures (messages_of words) identifier bytes) ≤ longest_printout
  unfolding frame_listing
  frame_short identifier bytes = go (eqb (length bytes) frame_bytes)
    where
      go : (b : Bool) → length (cond b (message_listing figures identifier bytes (message_with identifier (messages_of words))) (refused_frame_line identifier 21)) ≤ longest_printout
      go true = message_short identifier bytes
      go false = omega (arith, refused_short identifier 21 (omega arith))

  -- no printout is longer
  pub printout_short : (line : List ℕ) → length (printout figures (messages_of words) line) ≤ longest_printout
  unfolding printout
  printout_short line = go (frame_line_says line)
    where
      go : (said : FrameMeaning) → length (printout_of figures (messages_of words) said) ≤ longest_printout
      go (frame identifier bytes) = frame_short identifier bytes
      go ill_formed_spec = omega (arith, ap length spelt)
