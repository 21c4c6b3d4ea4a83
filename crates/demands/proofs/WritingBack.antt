-- Document 02, P3, from the calls' answers on: what the writer leaves of a record is read as that record; what it leaves of the words of a
-- taken text has the text's lines, and is the text where its R lines stand last; it is written again the same; and no room of 4,800
-- bytes is too small. Assumes nothing.
use mathlib.Core.Path.{◌≡◌, refl, sym, ap, ◌∙◌, subst}
use mathlib.Core.Logic.{◌↔◌}
use Prim.Native.Nat.{ℕ, ◌≤◌, ◌<◌}
use native.Mathlib.Omega.{arith}
use mathlib.Core.List.{List}
use lib.ListN.{length, take, drop}
use lib.Seq.{take-append_seam, drop-append_seam}
use Rattle.record.specs.Columns.{message_count_of, signal_count_of, route_count_of, IsRecord}
use Rattle.answers.specs.Numbers.{Said, taken}
use Rattle.books.specs.Book.{Book}
use Rattle.books.specs.Words.{words_of, messages_of, routes_of, book_of}
use Rattle.books.proofs.Building.{good_built, built_good}
use Rattle.books.proofs.Columns.{within, taken_stands, words_stand, shows}
use Rattle.books.proofs.RouteColumns.{words_routes, shows_routes}
use Rattle.reading.specs.Written.{book_text, most_written}
use Rattle.reading.specs.Taken.{TakenWith}
use Rattle.reading.proofs.Passing.{read_built}
use Rattle.reading.proofs.Counts.{text_routed}
use Rattle.reading.proofs.Exact.{has_text}
use Rattle.route_tables.specs.Tables.{LeftOf}
use Rattle.route_tables.proofs.FromTexts.{routed_shown}
use Rattle.route_tables.proofs.OneText.{stand_words}
use Rattle.book.specs.Answered.{Answered, taken_with}
use Rattle.book.proofs.Once.{answered_once}
use Rattle.book_writer.specs.Answers.{text_of, TablesTaken, WriteBy, no_room, writes, WriteAnswer, not_a_book, by_tables}
use Rattle.reading.proofs.Bound.{bound}
use Rattle.rewriting.specs.LineKinds.{text_lines, RoutesLast}
use Rattle.rewriting.proofs.Back as back
use Rattle.demands.specs.WritingBack.{AtFront, SameLines, SameTables}
use Rattle.demands.proofs.Taken.{left, left_tables}

-- ---- what an answer left
module _ (w room : List ℕ) where
  tables_taken : {n : ℕ} {after : List ℕ} → WriteAnswer w room 0 n after → TablesTaken w
  tables_taken (by_tables t b) = t

  -- tables that are taken are refused for the room alone
  by_room : {why n : ℕ} {after : List ℕ} → WriteBy w room why n after → (why ≡ 71) ↔ (length room < length (text_of w))
  by_room (no_room l) = (λ e. l, λ h. refl)
  by_room (writes l) = (λ e. absurd (omega arith), λ h. absurd (omega arith))

  told_room : {why n : ℕ} {after : List ℕ} → TablesTaken w → WriteAnswer w room why n after → (why ≡ 71) ↔ (length room < length (text_of w))
  told_room t (not_a_book x) = absurd (x t)
  told_room t (by_tables u b) = by_room b

  -- and where there is room the text is there
  by_front : {why n : ℕ} {after : List ℕ} → WriteBy w room why n after → length (text_of w) ≤ length room → AtFront room why n after (text_of w)
  by_front (no_room l) h = absurd (omega arith)
  by_front (writes l) h = record {
    not_refused = refl;
    count = refl;
    front = take-append_seam (text_of w) (drop (length (text_of w)) room);
    rest = drop-append_seam (text_of w) (drop (length (text_of w)) room);
  }

  written : {why n : ℕ} {after : List ℕ} → TablesTaken w → WriteAnswer w room why n after → length (text_of w) ≤ length room → AtFront room why n after (text_of w)
  written t (not_a_book x) h = absurd (x t)
  written t (by_tables u b) h = by_front b h

  -- what is not refused had room
  had_room : {n : ℕ} {after : List ℕ} → WriteAnswer w room 0 n after → length (text_of w) ≤ length room
  had_room (by_tables t (writes l)) = l

  as_written : {n : ℕ} {after : List ℕ} → WriteAnswer w room 0 n after → AtFront room 0 n after (text_of w)
  as_written a = written (tables_taken a) a (had_room a)

-- ---- of any record
module _ (w : List ℕ) (r : IsRecord w) where
  -- the book that it shows is that of its own text, and the record is its words
  own_answer : TablesTaken w → Answered (text_of w) (taken (message_count_of w) (signal_count_of w) (route_count_of w)) w
  own_answer t =
      let s = taken_stands w t.messages in
      let a = taken_with (has_text (book_of w) (good_built (messages_of w) s.1) (routed_shown w r) t.routes.sound) in
      rw (s.0.messages, s.0.signals, t.routes.stand.count) (subst (Answered (text_of w) _) (sym (stand_words w (book_of w) r s.0 t.routes.stand)) a)

  module _ (room : List ℕ) {n : ℕ} {after : List ℕ} (a : WriteAnswer w room 0 n after) where
    -- "Reading what was written gives the same tables."
    pub read_of_written : {said : Said} {v : List ℕ} → Answered (take n after) said v → SameTables w said v
    read_of_written {said} {v} b =
        let e = answered_once (subst (λ (t : List ℕ). Answered t said v) (as_written w room a).front b) (own_answer (tables_taken w room a)) in
        record { counts = ap (λ (x : Said × List ℕ). x.0) e; words = ap (λ (x : Said × List ℕ). x.1) e }

    -- and what was written is written again the same, wherever there is room for as many bytes
    pub written_again : {said : Said} {v : List ℕ} → Answered (take n after) said v → (other : List ℕ) → n ≤ length other
        → {why m : ℕ} {later : List ℕ} → WriteAnswer v other why m later → AtFront other why m later (take n after)
    written_again {said} {v} b other h {why} {m} {later} c =
        let f = as_written w room a in
        let same = (read_of_written b).words in
        let d = subst (λ (x : List ℕ). WriteAnswer x other why m later) same c in
        subst (AtFront other why m later) (sym f.front) (written w other (tables_taken w room a) d (omega (arith, f.count)))

  -- a room of 4,800 bytes is enough
  pub most_enough : (room : List ℕ) {why n : ℕ} {after : List ℕ} → most_written ≤ length room → WriteAnswer w room why n after → why ≡ 71 → ⊥
  most_enough room h (not_a_book x) e = omega arith
  most_enough room h (by_tables t b) e =
      let s = taken_stands w t.messages in
      omega (arith, (by_room w room b).0 e, bound (book_of w) (good_built (messages_of w) s.1) (routed_shown w r))

-- ---- of the words that the reader left of a taken text
module _ (b : Book) (text : List ℕ) (t : TakenWith text b) where
  shown_again : book_of (words_of b) ≡ b
  shown_again =
      let l = within b.messages (built_good (read_built text t.read)) in
      let r = text_routed text t.read in
      let m = shows (words_of b) b.messages l.few l.room (words_stand b l.few l.room) in
      let s = shows_routes (words_of b) b.routes r.few (words_routes b l.few l.room r.few) in
      ap (λ ms. record { messages = ms; routes = routes_of (words_of b) }) m ∙ ap (λ rs. record { messages = b.messages; routes = rs }) s

module _ (text : List ℕ) {m s r : ℕ} {w : List ℕ} (a : Answered text (taken m s r) w) where
  abbrev l : LeftOf text w
  l = left text a

  same_text : text_of w ≡ book_text l.book
  same_text = ap text_of l.words ∙ ap book_text (shown_again l.book text l.taken)

  as_long : length (text_of w) ≡ length text
  as_long = ap length same_text ∙ back.same_length text l.taken.read

  taken_tables : TablesTaken w
  taken_tables = left_tables text w l

  module _ (room : List ℕ) {why n : ℕ} {after : List ℕ} (b : WriteAnswer w room why n after) where
    -- 71 exactly where the room is smaller than the text that was read; else it is written
    pub refused_71 : (why ≡ 71) ↔ (length room < length text)
    refused_71 = let k = told_room w room taken_tables b in (λ e. omega (arith, k.0 e, as_long), λ h. k.1 (omega (arith, as_long)))

    pub write_of_taken : length text ≤ length room → AtFront room why n after (text_of w) × SameLines text (take n after)
    write_of_taken h =
        let f = written w room taken_tables b (omega (arith, as_long)) in
        let e = f.front ∙ same_text in
        let q = l.taken.read in
        (f, subst (SameLines text) (sym e) (record { of_messages = (back.same_lines text q).0; of_routes = (back.same_lines text q).1; in_order = back.in_order text q; long = back.same_length text q }))

    -- "A book with its R lines last comes back byte for byte."
    pub comes_back : length text ≤ length room → RoutesLast (text_lines text) → AtFront room why n after text
    comes_back h last =
        subst (AtFront room why n after) (same_text ∙ back.comes_back text l.taken.read last) (write_of_taken h).0
