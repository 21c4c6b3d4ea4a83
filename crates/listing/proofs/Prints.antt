-- What each answer on the way to a printout prints, from the word back to the frame. Assumes nothing.
use mathlib.Core.Path.{◌≡◌, refl, sym, ap, ◌∙◌}
use mathlib.Core.Bool.{Bool, true, false, cond}
use mathlib.Core.List.{List, ◌++◌}
use mathlib.Core.Option.{none, some}
use Prim.Native.Nat.{ℕ, ◌^◌, ◌<◌}
use lib.ListN.{length}
use borrow.Author.Tests.{eq-eqb, ne_eqb}
use Rattle.bits.specs.Frame.{frame_bytes}
use Rattle.bits.specs.Word.{bytes_of}
use Rattle.bits.proofs.Weights.{word_bytes}
use Rattle.books.specs.Book.{Placement, Message}
use Rattle.books.specs.Words.{side_by_side, messages_of}
use Rattle.std.specs.Prelude.{Result}
use Rattle.catalogue.specs.declared.Class.{Class}
use Rattle.catalogue.specs.declared.NoClass.{NoClass}
use Rattle.frame_lines.specs.declared.FrameLine.TheVariants.{NotEightBytes}
use Rattle.frame_lines.specs.Meaning.{ill_formed_spec, frame_line_says, frame_line_number}
use Rattle.frame_lines.proofs.Behind.{SaysFrame, SaysFewer}
use Rattle.frames.specs.Lookup.{Spans, part}
use Rattle.messages.specs.Signals.{AllFit, check_holds, message_from}
use Rattle.messages.proofs.Readings.{check_same, class_same}
use Rattle.framing.specs.declared.ReadRefusal.TheVariants.{UnknownIdentifier, WrongChecksum}
use Rattle.framing.specs.Messages.{message_with, placed_class}
use Rattle.framing.specs.Reading.{read_refusal_number, checksum_holds}
use Rattle.record.specs.Columns.{numbers_of, starts_of}
use Rattle.signal_lines.specs.declared.figures.Figures.{Figures}
use Rattle.signal_lines.specs.Printed.{reading_line, refused_frame_line, ill_formed_line}
use Rattle.listing.specs.Printout.{reading_lines, message_listing, frame_listing, printout}
use Rattle.listing.specs.Working.{word_lines, message_text}

-- ---- the word and the frame

lines_same : (figures : Figures) (identifier word : ℕ) → word < 2 ^ 64 → {ps : List Placement} → AllFit ps → word_lines figures identifier word ps ≡ reading_lines figures identifier (bytes_of word) ps
unfolding word_lines reading_lines
lines_same figures identifier word h AllFit.none = refl
lines_same figures identifier word h (AllFit.more {p} {ps} f fs) =
    ap (λ (c : Result Class NoClass). reading_line figures identifier p.number c ++ word_lines figures identifier word ps) (class_same word h p f)
    ∙ ap (λ (l : List ℕ). reading_line figures identifier p.number (placed_class (bytes_of word) p) ++ l) (lines_same figures identifier word h fs)

module _ (figures : Figures) (identifier word : ℕ) (h : word < 2 ^ 64) (ns ss : List ℕ) (same : length ss ≡ length ns) (fit : AllFit (side_by_side ns ss)) where
  text_same : message_text figures identifier word ns ss ≡ message_listing figures identifier (bytes_of word) (some (message_from identifier ns ss))
  unfolding message_text message_listing
  text_same =
      ap (λ (b : Bool). cond b (word_lines figures identifier word (side_by_side ns ss)) (refused_frame_line identifier (read_refusal_number WrongChecksum))) (check_same identifier word ns ss h same)
      ∙ ap (λ (l : List ℕ). cond (checksum_holds (message_from identifier ns ss) (bytes_of word)) l (refused_frame_line identifier (read_refusal_number WrongChecksum))) (lines_same figures identifier word h fit)

-- ---- what each answer on the way prints

-- the message, by its checksum
module _ (figures : Figures) (identifier word : ℕ) (ns ss : List ℕ) {b : Bool} (c : b ≡ check_holds identifier word ns) where
  pub message_signals : b ≡ true → word_lines figures identifier word (side_by_side ns ss) ≡ message_text figures identifier word ns ss
  unfolding message_text
  message_signals e = rw (sym c ∙ e)

  pub message_refused : b ≡ false → refused_frame_line identifier (read_refusal_number WrongChecksum) ≡ message_text figures identifier word ns ss
  unfolding message_text
  message_refused e = rw (sym c ∙ e)

-- the frame, by its message
module _ (figures : Figures) (words : List ℕ) (identifier word : ℕ) where
  pub frame_listed : word < 2 ^ 64 → {from to : ℕ} → Spans words identifier from to → {ns ss : List ℕ} → ns ≡ part from to (numbers_of words) → ss ≡ part from to (starts_of words)
      → message_text figures identifier word ns ss ≡ message_listing figures identifier (bytes_of word) (message_with identifier (messages_of words))
  frame_listed h {from} {to} s {ns} {ss} x y =
      ap (λ (l : List ℕ). message_text figures identifier word l ss) x
      ∙ ap (λ (l : List ℕ). message_text figures identifier word (part from to (numbers_of words)) l) y
      ∙ text_same figures identifier word h (part from to (numbers_of words)) (part from to (starts_of words)) s.same s.fit
      ∙ ap (message_listing figures identifier (bytes_of word)) (sym s.found)

  pub frame_unknown : message_with identifier (messages_of words) ≡ none
      → refused_frame_line identifier (read_refusal_number UnknownIdentifier) ≡ message_listing figures identifier (bytes_of word) (message_with identifier (messages_of words))
  unfolding message_listing
  frame_unknown e = rw e

-- the line, by what it says
module _ (figures : Figures) (ms : List Message) (l : List ℕ) where
  pub line_frame : {identifier word : ℕ} → SaysFrame l identifier word → message_listing figures identifier (bytes_of word) (message_with identifier ms) ≡ printout figures ms l
  unfolding printout frame_listing
  line_frame {identifier} {word} s =
      let bytes : bytes_of word ≡ s.bytes = ap bytes_of s.word ∙ word_bytes s.bytes (record { many = s.eight; small = s.small }) in
      rw (s.said, eq-eqb (length s.bytes) frame_bytes s.eight) (ap (λ (f : List ℕ). message_listing figures identifier f (message_with identifier ms)) bytes)

  pub line_fewer : {identifier : ℕ} → SaysFewer l identifier → refused_frame_line identifier (frame_line_number (NotEightBytes identifier)) ≡ printout figures ms l
  unfolding printout frame_listing
  line_fewer s = rw (s.said, ne_eqb (length s.bytes) frame_bytes s.other)

  pub line_ill : frame_line_says l ≡ ill_formed_spec → ill_formed_line ≡ printout figures ms l
  unfolding printout
  line_ill s = rw s
