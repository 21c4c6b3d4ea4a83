-- What the lister prints is what reading answers: the number of a refusal, or a line for each reading, of the same class. And the
-- call itself refuses, by 12, just the words that reading so refuses. Assumes nothing.
use mathlib.Core.Path.{◌≡◌, refl}
use mathlib.Core.Bool.{Bool, true, false, cond}
use mathlib.Core.List.{List}
use mathlib.Core.Option.{Option, none, some}
use Prim.Native.Nat.{ℕ}
use native.Mathlib.Omega.{arith}
use lib.Dec.{eqb, leb}
use lib.ListN.{length}
use Rattle.bits.specs.Frame.{frame_bytes}
use Rattle.books.specs.Book.{Message}
use Rattle.books.specs.Words.{messages_of, messages_taken_spec}
use Rattle.std.specs.Prelude.{Result, Ok, Err}
use Rattle.framing.specs.declared.ReadRefusal.{ReadRefusal}
use Rattle.framing.specs.declared.ReadRefusal.TheVariants.{NotEightBytes, WrongChecksum, TooLittleRoom}
use Rattle.framing.specs.Messages.{message_with}
use Rattle.framing.specs.Reading.{Slices, reading_number, read_refusal_number, checksum_holds, room, readings, read_by_message, read_by_messages}
use Rattle.signal_lines.specs.declared.figures.Figures.{Figures}
use Rattle.signal_lines.specs.Printed.{refused_frame_line}
use Rattle.listing.specs.declared.Listed.{Listed}
use Rattle.listing.specs.declared.ListRefusal.{ListRefusal}
use Rattle.listing.specs.declared.ListRefusal.TheVariants.{NotABook}
use Rattle.listing.specs.Printout.{reading_lines, message_listing, frame_listing}
use Rattle.listing.specs.Listing.{listed_number, listing_by, listing}
use Rattle.listing.specs.AsRead.{Refuses, ListedAsRead}

module _ (figures : Figures) (identifier : ℕ) (bytes : List ℕ) (lent : Slices) where
  by_message : (o : Option Message) → Refuses (read_by_message o bytes lent).0
      → message_listing figures identifier bytes o ≡ refused_frame_line identifier (reading_number (read_by_message o bytes lent).0)
  unfolding read_by_message message_listing
  by_message none r = refl
  by_message (some m) r = go (checksum_holds m bytes) (leb (length m.placements) (room lent)) r
    where
      go : (b c : Bool)
          → Refuses (cond {A = Result ℕ ReadRefusal × Slices} b (cond {A = Result ℕ ReadRefusal × Slices} c (Ok (length m.placements), readings bytes m.placements lent) (Err TooLittleRoom, lent)) (Err WrongChecksum, lent)).0
          → cond b (reading_lines figures identifier bytes m.placements) (refused_frame_line identifier (read_refusal_number WrongChecksum))
          ≡ refused_frame_line identifier (reading_number (cond {A = Result ℕ ReadRefusal × Slices} b (cond {A = Result ℕ ReadRefusal × Slices} c (Ok (length m.placements), readings bytes m.placements lent) (Err TooLittleRoom, lent)) (Err WrongChecksum, lent)).0)
      go true true r = absurd r
      go true false r = absurd r
      go false c r = refl

  -- a refused frame gives the number of the refusal
  pub refused_as_read : (ms : List Message) → Refuses (read_by_messages ms identifier bytes lent).0
      → frame_listing figures ms identifier bytes ≡ refused_frame_line identifier (reading_number (read_by_messages ms identifier bytes lent).0)
  unfolding read_by_messages frame_listing
  refused_as_read ms r = go (eqb (length bytes) frame_bytes) r
    where
      go : (b : Bool) → Refuses (cond {A = Result ℕ ReadRefusal × Slices} b (read_by_message (message_with identifier ms) bytes lent) (Err NotEightBytes, lent)).0
          → cond b (message_listing figures identifier bytes (message_with identifier ms)) (refused_frame_line identifier (read_refusal_number NotEightBytes))
          ≡ refused_frame_line identifier (reading_number (cond {A = Result ℕ ReadRefusal × Slices} b (read_by_message (message_with identifier ms) bytes lent) (Err NotEightBytes, lent)).0)
      go true r = by_message (message_with identifier ms) r
      go false r = refl

module _ (figures : Figures) (ms : List Message) (identifier : ℕ) (bytes : List ℕ) (lent : Slices) where
  -- and a frame that is read gives a line for each reading
  pub listed_as_read : (n : ℕ) → (read_by_messages ms identifier bytes lent).0 ≡ Ok n → ListedAsRead figures ms identifier bytes lent
  unfolding read_by_messages read_by_message frame_listing message_listing
  listed_as_read n e = long (eqb (length bytes) frame_bytes) refl e
    where
      read : (m : Message) (b c : Bool) → eqb (length bytes) frame_bytes ≡ true → message_with identifier ms ≡ some m → checksum_holds m bytes ≡ b → leb (length m.placements) (room lent) ≡ c
          → (cond {A = Result ℕ ReadRefusal × Slices} b (cond {A = Result ℕ ReadRefusal × Slices} c (Ok (length m.placements), readings bytes m.placements lent) (Err TooLittleRoom, lent)) (Err WrongChecksum, lent)).0 ≡ Ok n
          → ListedAsRead figures ms identifier bytes lent
      read m true true x y z w e = record { message = m; found = y; printed = rw (x, y, z); read = rw (x, y, z, w) }
      read m true false x y z w e = absurd (let q : ◌≡◌ {A = ℕ} 0 1 = cc in omega arith)
      read m false c x y z w e = absurd (let q : ◌≡◌ {A = ℕ} 0 1 = cc in omega arith)

      known : (o : Option Message) → eqb (length bytes) frame_bytes ≡ true → message_with identifier ms ≡ o → (read_by_message o bytes lent).0 ≡ Ok n → ListedAsRead figures ms identifier bytes lent
      known none x y e = absurd (let q : ◌≡◌ {A = ℕ} 0 1 = cc in omega arith)
      known (some m) x y e = read m (checksum_holds m bytes) (leb (length m.placements) (room lent)) x y refl refl e

      long : (b : Bool) → eqb (length bytes) frame_bytes ≡ b → (cond {A = Result ℕ ReadRefusal × Slices} b (read_by_message (message_with identifier ms) bytes lent) (Err NotEightBytes, lent)).0 ≡ Ok n → ListedAsRead figures ms identifier bytes lent
      long true x e = known (message_with identifier ms) x refl e
      long false x e = absurd (let q : ◌≡◌ {A = ℕ} 0 1 = cc in omega arith)

-- words that are those of no taken book, and nothing else, are refused
pub refused_12 : (figures : Figures) (words text lent : List ℕ) → listed_number (listing figures words text lent).0 ≡ cond (messages_taken_spec words) 0 12
unfolding listing
refused_12 figures words text lent = go (messages_taken_spec words)
  where
    go : (b : Bool) → listed_number (cond {A = Result Listed ListRefusal × List ℕ} b (listing_by figures (messages_of words) text lent) (Err NotABook, lent)).0 ≡ cond b 0 12
    go true = refl
    go false = refl
