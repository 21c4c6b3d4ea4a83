-- Demand 2, from the reader's answer on: reading and packing by the words that it left of a taken text are reading and packing by the
-- messages that the text's M and S lines say. Assumes nothing.
use mathlib.Core.Path.{◌≡◌, refl, sym, ap, ◌∙◌}
use Prim.Native.Nat.{ℕ}
use mathlib.Core.Bool.{true}
use mathlib.Core.List.{List, [], ◌∷◌, ◌++◌, append_assoc, append-nil}
use Rattle.line.specs.declared.Line.{Line}
use Rattle.line.specs.declared.Line.TheVariants as line
use Rattle.books.specs.Book.{Book, Message, Placement, fresh, in_last, with_placement}
use Rattle.books.specs.Words.{messages_of, messages_taken_spec, words_of}
use Rattle.books.proofs.Building.{built_good}
use Rattle.books.proofs.Columns.{within, shows, words_stand}
use Rattle.books.proofs.Ends.{in_last_law}
use Rattle.reading.specs.Reading.{passed, with_line, meanings, lines_read}
use Rattle.reading.proofs.Passing.{text_kept, read_built}
use Rattle.answers.specs.Numbers.{taken}
use Rattle.book.specs.Answered.{Answered}
use Rattle.route_tables.proofs.OneText.{text_messages_taken}
use Rattle.framing.specs.Messages.{message_with}
use Rattle.framing.specs.Reading.{Slices, read_by_messages, reading}
use Rattle.framing.specs.Packing.{pack_by_message, packing}
use Rattle.route_tables.specs.Tables.{LeftOf}
use Rattle.demands.specs.Text.{s_placements, m_messages, text_messages}
use Rattle.demands.proofs.Taken.{left}

-- messages with more signals in the last of them
grown : List Message → List Placement → List Message
grown ms [] = ms
grown ms (p ∷ ps) = grown (in_last ms p) ps

grown_none : (ps : List Placement) → grown [] ps ≡ []
unfolding grown in_last
grown_none [] = refl
grown_none (p ∷ ps) = grown_none ps

abbrev with_all : Message → List Placement → Message
with_all m ps = record { identifier = m.identifier; placements = m.placements ++ ps }

grown_last : (ms : List Message) (m : Message) (ps : List Placement) → grown (ms ++ (m ∷ [])) ps ≡ ms ++ (with_all m ps ∷ [])
unfolding grown
grown_last ms m [] = ap (λ (qs : List Placement). ms ++ (record { identifier = m.identifier; placements = qs } ∷ [])) (sym (append-nil m.placements))
grown_last ms m (p ∷ ps) =
    ap (λ (l : List Message). grown l ps) (in_last_law ms m p) ∙ grown_last ms (with_placement m p) ps ∙
    ap (λ (qs : List Placement). ms ++ (record { identifier = m.identifier; placements = qs } ∷ [])) (append_assoc m.placements (p ∷ []) ps)

-- one line more: an M line begins a message, an S line belongs to the last one
messages_with : (b : Book) (l : Line) (ls : List Line)
    → grown (with_line b l).messages (s_placements ls) ++ m_messages ls ≡ grown b.messages (s_placements (l ∷ ls)) ++ m_messages (l ∷ ls)
unfolding with_line s_placements m_messages grown
messages_with b (line.Message i) ls =
    ap (λ (ms : List Message). ms ++ m_messages ls) (grown_last b.messages (fresh i) (s_placements ls)) ∙
    append_assoc b.messages (with_all (fresh i) (s_placements ls) ∷ []) (m_messages ls)
messages_with b (line.Signal n s) ls = refl
messages_with b (line.Route x i y j) ls = refl
messages_with b line.IllFormed ls = refl

-- the messages that the reader keeps are those that the text's M and S lines say
pub messages_of_text : (text : List ℕ) {b : Book} {at : List ℕ} → lines_read text ≡ passed b at → b.messages ≡ text_messages text
unfolding s_placements m_messages grown
messages_of_text text {b} e =
    let whole = grown [] (s_placements (meanings text)) ++ m_messages (meanings text) in
    let kept : grown b.messages [] ++ [] ≡ whole =
    text_kept (λ c ls. grown c.messages (s_placements ls) ++ m_messages ls ≡ whole) (λ c l ls r h. messages_with c l ls ∙ h) text e refl
    in
    sym (append-nil b.messages) ∙ kept ∙ ap (λ (ms : List Message). ms ++ text_messages text) (grown_none (s_placements (meanings text)))

-- by the words that the reader left of a taken text
module _ (text : List ℕ) {m s r : ℕ} {w : List ℕ} (a : Answered text (taken m s r) w) where
  abbrev was : LeftOf text w
  was = left text a

  -- they pass the test of reading and packing
  passes : messages_taken_spec w ≡ true
  passes = ap messages_taken_spec was.words ∙ text_messages_taken text was.book was.taken

  -- and show the messages of the text
  shown : messages_of w ≡ text_messages text
  shown =
      let t = was.taken in
      let l = within was.book.messages (built_good (read_built text t.read)) in
      ap messages_of was.words ∙
      shows (words_of was.book) was.book.messages l.few l.room (words_stand was.book l.few l.room) ∙
      messages_of_text text t.read

  -- a frame is read by the text's messages: 22 where none has the identifier, else each signal in the order of the S lines
  pub read_of_taken : (identifier : ℕ) (frame : List ℕ) (lent : Slices) → reading w identifier frame lent ≡ read_by_messages (text_messages text) identifier frame lent
  unfolding reading
  read_of_taken identifier frame lent = rw (passes, shown) refl

  -- and packed by them
  pub pack_of_taken : (identifier : ℕ) (vs lent : List ℕ) → packing w identifier vs lent ≡ pack_by_message (message_with identifier (text_messages text)) vs lent
  unfolding packing
  pack_of_taken identifier vs lent = rw (passes, shown) refl
