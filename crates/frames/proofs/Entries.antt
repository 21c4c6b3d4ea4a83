-- From the parts of the columns to the message: what is read and packed by them is what the book's message says. Assumes nothing.
use Rattle.std.specs.Prelude.{Result, Err}
use mathlib.Core.Path.{◌≡◌, refl, sym, ap, ◌∙◌}
use mathlib.Core.Bool.{true, false}
use mathlib.Core.List.{List}
use mathlib.Core.Option.{none, some}
use Prim.Native.Nat.{ℕ, ◌-◌, ◌≤◌, ◌<◌}
use native.Mathlib.Omega.{arith}
use lib.ListN.{length, get_or, drop, length-take, length-drop}
use borrow.Author.Tests.{eq-eqb, ne_eqb}
use Rattle.bits.specs.Frame.{frame_bytes}
use Rattle.bits.specs.Word.{word_of, bytes_of}
use Rattle.bits.proofs.Weights.{word_bytes}
use Rattle.books.specs.Book.{Message}
use Rattle.books.specs.Good.{good}
use Rattle.books.specs.Words.{side_by_side, messages_of, messages_taken_spec}
use Rattle.framing.specs.declared.ReadRefusal.{ReadRefusal}
use Rattle.framing.specs.declared.ReadRefusal.TheVariants as Read
use Rattle.framing.specs.declared.PackRefusal.{PackRefusal}
use Rattle.framing.specs.declared.PackRefusal.TheVariants as Pack
use Rattle.framing.specs.Messages.{message_with}
use Rattle.framing.specs.Reading.{Slices, read_by_message, read_by_messages, reading}
use Rattle.framing.specs.Packing.{judged_values, pack_by_message, packing}
use Rattle.framing.proofs.WellPlaced.{sound_message}
use Rattle.framing.proofs.FrameSent.{put_or}
use Rattle.record.specs.Limits.{signal_limit}
use Rattle.record.specs.Columns.{numbers_at, numbers_of, starts_of}
use Rattle.messages.specs.Signals.{AllFit, message_from, Readable}
use Rattle.messages.specs.Put.{Packable, pack_into}
use Rattle.frames.specs.Lookup.{part, Spans}
use Rattle.books.proofs.Sides.{side_length}

-- ---- reading

-- what stands before the message is looked for
module _ (ms : List Message) (identifier : ℕ) (frame : List ℕ) (lent : Slices) where
  pub read_short : (length frame ≡ frame_bytes → ⊥) → ◌≡◌ {A = Result ℕ ReadRefusal × Slices} (Err Read.NotEightBytes, lent) (read_by_messages ms identifier frame lent)
  unfolding read_by_messages
  read_short n = rw (ne_eqb (length frame) frame_bytes n) refl

  pub read_eight : length frame ≡ frame_bytes → ((k : ℕ) → get_or frame k 0 < 256) → (word : ℕ) → word ≡ word_of frame → (out : Result ℕ ReadRefusal × Slices)
      → out ≡ read_by_message (message_with identifier ms) (bytes_of word) lent → out ≡ read_by_messages ms identifier frame lent
  unfolding read_by_messages
  read_eight e small word w out h =
      rw (eq-eqb (length frame) frame_bytes e)
      (h ∙ ap (λ (f : List ℕ). read_by_message (message_with identifier ms) f lent) (ap bytes_of w ∙ word_bytes frame (record { many = e; small = small })))

-- what was found of the message
module _ (ms : List Message) (identifier : ℕ) (frame : List ℕ) (lent : Slices) where
  pub read_unknown : message_with identifier ms ≡ none → ◌≡◌ {A = Result ℕ ReadRefusal × Slices} (Err Read.UnknownIdentifier, lent) (read_by_message (message_with identifier ms) frame lent)
  unfolding read_by_message
  read_unknown f = rw f refl

  pub read_known : (m : Message) → message_with identifier ms ≡ some m → (out : Result ℕ ReadRefusal × Slices) → out ≡ read_by_message (some m) frame lent → out ≡ read_by_message (message_with identifier ms) frame lent
  read_known m f out h = rw f h

-- ---- packing

module _ (ms : List Message) (identifier : ℕ) (vs lent : List ℕ) where
  pub pack_unknown : message_with identifier ms ≡ none → ◌≡◌ {A = Result (Unit {0}) PackRefusal × List ℕ} (Err Pack.UnknownIdentifier, lent) (pack_by_message (message_with identifier ms) vs lent)
  unfolding pack_by_message
  pack_unknown f = rw f refl

  module _ (m : Message) (f : message_with identifier ms ≡ some m) where
    pub pack_count : (length vs ≡ length m.placements → ⊥) → ◌≡◌ {A = Result (Unit {0}) PackRefusal × List ℕ} (Err Pack.WrongCountOfValues, lent) (pack_by_message (message_with identifier ms) vs lent)
    unfolding pack_by_message
    pack_count n = rw (f, ne_eqb (length vs) (length m.placements) n) refl

    pub pack_short : length vs ≡ length m.placements → (length lent ≡ frame_bytes → ⊥) → ◌≡◌ {A = Result (Unit {0}) PackRefusal × List ℕ} (Err Pack.NotEightBytes, lent) (pack_by_message (message_with identifier ms) vs lent)
    unfolding pack_by_message
    pack_short e n = rw (f, eq-eqb (length vs) (length m.placements) e, ne_eqb (length lent) frame_bytes n) refl

    -- the message of a taken book: what is put is what is sent
    pub pack_known : good ms ≡ true → length vs ≡ length m.placements → length lent ≡ frame_bytes → (out : Result (Unit {0}) PackRefusal × List ℕ) → out ≡ pack_into m vs lent → out ≡ pack_by_message (message_with identifier ms) vs lent
    unfolding pack_by_message
    pack_known g e n out h =
        rw (f, eq-eqb (length vs) (length m.placements) e, eq-eqb (length lent) frame_bytes n)
        (h ∙ ap (λ (x : List ℕ). (judged_values m.placements vs, x)) (put_or m vs lent (sound_message identifier ms m g f) e))

-- ---- the test of the book

module _ (words : List ℕ) (identifier : ℕ) where
  pub read_no_book : (frame : List ℕ) (lent : Slices) → messages_taken_spec words ≡ false → ◌≡◌ {A = Result ℕ ReadRefusal × Slices} (Err Read.NotABook, lent) (reading words identifier frame lent)
  unfolding reading
  read_no_book frame lent e = rw e refl

  pub read_book : (frame : List ℕ) (lent : Slices) (out : Result ℕ ReadRefusal × Slices) → messages_taken_spec words ≡ true → out ≡ read_by_messages (messages_of words) identifier frame lent → out ≡ reading words identifier frame lent
  unfolding reading
  read_book frame lent out e h = rw e h

  pub pack_no_book : (vs lent : List ℕ) → messages_taken_spec words ≡ false → ◌≡◌ {A = Result (Unit {0}) PackRefusal × List ℕ} (Err Pack.NotABook, lent) (packing words identifier vs lent)
  unfolding packing
  pack_no_book vs lent e = rw e refl

  pub pack_book : (vs lent : List ℕ) (out : Result (Unit {0}) PackRefusal × List ℕ) → messages_taken_spec words ≡ true → out ≡ pack_by_message (message_with identifier (messages_of words)) vs lent → out ≡ packing words identifier vs lent
  unfolding packing
  pack_book vs lent out e h = rw e h

-- ---- the parts of the columns

module _ (w : List ℕ) (identifier from to : ℕ) (s : Spans w identifier from to) (ns ss : List ℕ) (n : ns ≡ numbers_of w) (t : ss ≡ starts_of w) where
  pub found : message_with identifier (messages_of w) ≡ some (message_from identifier (part from to ns) (part from to ss))
  found = rw (n, t) s.found

  pub many : length (side_by_side (part from to ns) (part from to ss)) ≡ to - from
  many = rw (n, t) s.many

  same : length (part from to ss) ≡ length (part from to ns)
  same = rw (n, t) s.same

  fit : AllFit (side_by_side (part from to ns) (part from to ss))
  fit = rw (n, t) s.fit

  few : length (part from to ns) ≤ signal_limit
  few = omega (arith, length-take (to - from) (drop from ns), length-drop from ns, ap length n, length-take signal_limit (drop numbers_at w))

  pub readable : Readable (part from to ns) (part from to ss)
  readable = record { few = few; same = same; fit = fit }

  pub packable : (vs : List ℕ) → length vs ≡ to - from → Packable (part from to ns) (part from to ss) vs
  packable vs e = record { few = few; same = same; many = e ∙ sym many ∙ side_length (part from to ns) (part from to ss) same; fit = fit }
