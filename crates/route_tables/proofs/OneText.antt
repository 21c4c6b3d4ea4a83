-- A record whose messages and routes both pass the tests behind 12 is, word for word, that of one taken text. Assumes nothing.
use mathlib.Core.Path.{◌≡◌, refl, sym, ap, ◌∙◌}
use Prim.Native.Nat.{ℕ, ◌≤◌}
use native.Mathlib.Omega.{arith}
use mathlib.Core.Bool.{true}
use mathlib.Core.List.{List, [], ◌∷◌, ◌++◌}
use lib.ListN.{length, get_or, drop, length-drop, take-append-drop}
use lib.Seq.{drop-drop, take_all}
use Rattle.record.specs.Columns.{ids_at, froms_at, message_words, route_words, message_count_of, signal_count_of, route_count_of, message_columns_of, route_columns_of, IsRecord}
use Rattle.books.specs.Book.{Book, all_placements}
use Rattle.books.specs.Words.{message_columns, words_of, messages_of, messages_taken_spec, book_of, Stands, RoutesStand}
use Rattle.books.proofs.Building.{good_built, built_good}
use Rattle.books.proofs.Columns.{within, taken_stands, stands_taken, words_stand}
use Rattle.books.proofs.RouteColumns.{words_routes}
use Rattle.reading.specs.Written.{book_text}
use Rattle.reading.specs.Taken.{TakenWith}
use Rattle.reading.proofs.Passing.{read_built}
use Rattle.reading.proofs.Counts.{text_routed}
use Rattle.reading.proofs.Exact.{has_text}
use Rattle.route_tables.specs.Tables.{RoutesTaken, OfTakenText}
use Rattle.route_tables.proofs.FromTexts.{routed_shown, stand_taken}

-- a record is its three counts, its message columns and its route columns
counts_and_rest : (w : List ℕ) → 3 ≤ length w → w ≡ get_or w 0 0 ∷ get_or w 1 0 ∷ get_or w 2 0 ∷ drop 3 w
counts_and_rest [] h = absurd (omega arith)
counts_and_rest (a ∷ []) h = absurd (omega arith)
counts_and_rest (a ∷ b ∷ []) h = absurd (omega arith)
counts_and_rest (a ∷ b ∷ c ∷ l) h = refl

parts_of : (w : List ℕ) → IsRecord w → w ≡ message_count_of w ∷ signal_count_of w ∷ route_count_of w ∷ (message_columns_of w ++ route_columns_of w)
parts_of w r =
    counts_and_rest w (omega (arith, r.long)) ∙
    ap (λ (l : List ℕ). message_count_of w ∷ signal_count_of w ∷ route_count_of w ∷ l)
    (sym (take-append-drop message_words (drop ids_at w)) ∙
    ap (λ (l : List ℕ). message_columns_of w ++ l)
    (drop-drop message_words ids_at w ∙ sym (take_all route_words (drop froms_at w) (omega (arith, length-drop froms_at w, r.long)))))

-- where messages and routes stand in a record, it has the words of their book
pub stand_words : (w : List ℕ) (b : Book) → IsRecord w → Stands w b.messages → RoutesStand w b.routes → w ≡ words_of b
unfolding words_of
stand_words w b r m s =
    parts_of w r ∙
    ap (λ (n : ℕ). n ∷ signal_count_of w ∷ route_count_of w ∷ (message_columns_of w ++ route_columns_of w)) m.messages ∙
    ap (λ (n : ℕ). length b.messages ∷ n ∷ route_count_of w ∷ (message_columns_of w ++ route_columns_of w)) m.signals ∙
    ap (λ (n : ℕ). length b.messages ∷ length (all_placements b.messages) ∷ n ∷ (message_columns_of w ++ route_columns_of w)) s.count ∙
    ap (λ (l : List ℕ). length b.messages ∷ length (all_placements b.messages) ∷ length b.routes ∷ (l ++ route_columns_of w)) m.columns ∙
    ap (λ (l : List ℕ). length b.messages ∷ length (all_placements b.messages) ∷ length b.routes ∷ (message_columns b.messages ++ l)) s.columns

-- both tests pass: the words are those of the book that they show, whose own text is taken with it
pub of_taken_text : (w : List ℕ) → IsRecord w → messages_taken_spec w ≡ true → RoutesTaken w → OfTakenText w
of_taken_text w r m t =
    let s = taken_stands w m in
    let b = book_of w in
    record {
      text = book_text b;
      left = record {
        book = b;
        taken = has_text b (good_built (messages_of w) s.1) (routed_shown w r) t.sound;
        words = stand_words w b r s.0 t.stand;
      };
    }

-- and the words of a taken text pass both
module _ (text : List ℕ) (b : Book) (t : TakenWith text b) where
  pub text_messages_taken : messages_taken_spec (words_of b) ≡ true
  text_messages_taken =
      let g = built_good (read_built text t.read) in
      let l = within b.messages g in
      stands_taken (words_of b) b.messages (words_stand b l.few l.room) g

  pub text_routes_taken : RoutesTaken (words_of b)
  text_routes_taken =
      let l = within b.messages (built_good (read_built text t.read)) in
      let r = text_routed text t.read in
      stand_taken (words_of b) r (words_routes b l.few l.room r.few) t.sound
