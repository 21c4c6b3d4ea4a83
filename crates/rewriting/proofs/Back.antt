-- WRITING THE BOOK BACK: a text whose lines pass, and what is written of the book that they give. Assumes nothing.
use mathlib.Core.Path.{◌≡◌, refl, sym, ap, ◌∙◌, subst}
use mathlib.Core.List.{List, [], ◌∷◌, ◌++◌, map, map-append}
use Prim.Native.Nat.{ℕ, ◌+◌, ◌≤◌}
use native.Mathlib.Omega.{arith}
use lib.ListN.{length}
use Rattle.parts.specs.Parts.{ended}
use Rattle.parts.specs.Joined.{text_of_lines}
use Rattle.parts.proofs.LineEnds.{lines_written}
use Rattle.line.specs.Written.{line_text}
use Rattle.books.specs.Book.{Book}
use Rattle.reading.specs.Reading.{passed, lines_read}
use Rattle.reading.specs.Written.{route_line, message_lines, book_lines, book_text, most_written, count_up}
use Rattle.reading.specs.Taken.{TakenWith}
use Rattle.reading.proofs.Passing.{same_book, read_built}
use Rattle.reading.proofs.Counts.{text_routed}
use Rattle.reading.proofs.Texts.{text_read, texts_free}
use Rattle.reading.proofs.Bound.{bound}
use Rattle.reading.proofs.Exact.{has_text}
use Rattle.rewriting.specs.LineKinds.{line_bytes, text_lines, message_lines_of, route_lines_of, RoutesLast}
use Rattle.rewriting.proofs.Growing.{message_texts, route_texts, every_line, message_lines_law, route_lines_law}
use Rattle.rewriting.proofs.Orders.{only_order}
use Rattle.rewriting.proofs.Parted.{whole, length_parted, last_parted, all_those, parted_last}

-- ---- what is written of a book
bytes_ended : (ls : List (List ℕ)) → map line_bytes (map ended ls) ≡ ls
bytes_ended [] = refl
bytes_ended (l ∷ ls) = ap (◌∷◌ l) (bytes_ended ls)

-- its lines are those of the messages, then those of the routes
written_lines : (b : Book) → text_lines (book_text b) ≡ message_texts b ++ route_texts b
unfolding text_lines book_text book_lines
written_lines b =
    ap (map line_bytes) (lines_written (map line_text (book_lines b)) (texts_free (book_lines b))) ∙ bytes_ended (map line_text (book_lines b)) ∙
    map-append line_text (message_lines b.messages) (map route_line b.routes)

-- ---- a text, and what is written of its book
module _ (text : List ℕ) {b : Book} {at : List ℕ} (e : lines_read text ≡ passed b at) where
  -- the text is its lines, each with its newline
  pub all_ended : text ≡ text_of_lines (text_lines text)
  all_ended = whole text (every_line text e)

  -- IN ORDER: what is written is, byte for byte, the M and S lines of the text and then its R lines
  pub in_order : book_text b ≡ text_of_lines (message_lines_of text ++ route_lines_of text)
  unfolding book_text book_lines
  in_order =
      ap text_of_lines (map-append line_text (message_lines b.messages) (map route_line b.routes)) ∙
      rw (message_lines_law text e, route_lines_law text e)

  -- READ AGAIN it is the same book
  pub read_again : lines_read (book_text b) ≡ passed b (count_up (1 + length (message_lines b.messages)) (length b.routes))
  read_again = let r = text_routed text e in text_read b (read_built text e) r.places r.few

  -- THE SAME LINES: those of M and S in their order and those of R in theirs
  pub same_lines : (message_lines_of (book_text b) ≡ message_lines_of text) × (route_lines_of (book_text b) ≡ route_lines_of text)
  same_lines = only_order text (book_text b) e read_again

  -- so THE SAME LENGTH
  pub same_length : length (book_text b) ≡ length text
  unfolding message_lines_of route_lines_of text_lines
  same_length = ap length in_order ∙ length_parted (every_line text e) ∙ ap length (sym all_ended)

  -- and no text whose lines pass, whatever its length, is longer than 4,800 bytes
  pub passed_short : length text ≤ most_written
  passed_short = omega (arith, same_length, bound b (read_built text e) (text_routed text e))

  -- with its R lines last it COMES BACK byte for byte
  pub comes_back : RoutesLast (text_lines text) → book_text b ≡ text
  unfolding message_lines_of route_lines_of text_lines
  comes_back last = in_order ∙ ap text_of_lines (last_parted (every_line text e) last) ∙ sym all_ended

  -- what is written has its R lines last
  pub routes_last : RoutesLast (text_lines (book_text b))
  unfolding message_lines_of route_lines_of
  routes_last =
      subst RoutesLast (sym (written_lines b ∙ rw (message_lines_law text e, route_lines_law text e))) (parted_last (text_lines text) (all_those (text_lines text)))

  -- so no other text comes back
  pub only_last : book_text b ≡ text → RoutesLast (text_lines text)
  only_last same = subst (λ (t : List ℕ). RoutesLast (text_lines t)) same routes_last

  -- what is written comes back, and so on: whatever book it is read as, the same is written of it
  pub fixed : {c : Book} {to : List ℕ} → lines_read (book_text b) ≡ passed c to → book_text c ≡ book_text b
  fixed f = ap book_text (same_book (sym f ∙ read_again))

-- and of a taken text it is taken again, with the same book
pub taken_again : (text : List ℕ) {b : Book} → TakenWith text b → TakenWith (book_text b) b
taken_again text {b} t = has_text b (read_built text t.read) (text_routed text t.read) t.sound
