-- WHAT A BOOK HAS OF LINES THAT PASS: each is an M or S line or an R line, ended by a newline; those of M and S are, byte for byte, the
-- lines of the book's messages, those of R the lines of its routes. Assumes nothing.
use mathlib.Core.Path.{◌≡◌, refl, sym, ap, ◌∙◌, subst}
use mathlib.Core.Bool.{Bool}
use mathlib.Core.List.{List, [], ◌∷◌, ◌++◌, map, map-append, append_assoc, append-nil}
use Prim.Native.Nat.{ℕ, suc, ◌/◌, ◌%◌, ◌<◌}
use Rattle.lists.specs.Lists.{those}
use Rattle.lists.proofs.Lists.{those_append}
use Rattle.record.specs.Limits.{identifier_limit}
use Rattle.record.specs.Place.{place_key, key_fits, key_place, says_both}
use Rattle.parts.specs.Parts.{TextLine, ended, unended, lines}
use Rattle.parts.specs.Joined.{join}
use Rattle.line.specs.declared.Line.{Line}
use Rattle.line.specs.declared.Line.TheVariants as line
use Rattle.line.specs.Meaning.{line_meaning, meaning_of}
use Rattle.line.specs.Written.{fields_of, line_text}
use Rattle.books.specs.Book.{Book, Route, no_book, placement, route}
use Rattle.books.specs.Lines.{route_refusal, bus_limit}
use Rattle.books.proofs.RouteLines.{route_allowed}
use Rattle.reading.specs.Reading.{passed, refusal_of, with_line, numbered_with, read_from, meanings, lines_read}
use Rattle.reading.specs.Written.{route_line, message_lines}
use Rattle.reading.proofs.Passing.{went, same_book}
use Rattle.reading.proofs.Bytes.{ill_passes, says_itself}
use Rattle.reading.proofs.Writes.{lines_message, lines_signal}
use Rattle.rewriting.specs.LineKinds.{line_bytes, text_lines, is_m_or_s_line, is_r_line, message_lines_of, route_lines_of, MSAndRLines, no_line, m_or_s_line, r_line}

-- the lines of a book's messages, and those of its routes, as bytes
abbrev pub message_texts : Book → List (List ℕ)
message_texts b = map line_text (message_lines b.messages)

abbrev pub route_texts : Book → List (List ℕ)
route_texts b = map line_text (map route_line b.routes)

-- the book c is the book b with some lines more
record Grown (b c : Book) (ls : List (List ℕ)) : Type 0 where
  pub messages : message_texts c ≡ message_texts b ++ those is_m_or_s_line ls
  pub routes : route_texts c ≡ route_texts b ++ those is_r_line ls

after : (P : List ℕ → Bool) (x : List (List ℕ)) {y z : List (List ℕ)} (l : List ℕ) (ls : List (List ℕ))
    → y ≡ x ++ those P (l ∷ []) → z ≡ y ++ those P ls → z ≡ x ++ those P (l ∷ ls)
after P x l ls e f =
    f ∙ ap (λ (t : List (List ℕ)). t ++ those P ls) e ∙ append_assoc x (those P (l ∷ [])) (those P ls) ∙
    ap (λ (t : List (List ℕ)). x ++ t) (sym (those_append P (l ∷ []) ls))

grown_on : {b c d : Book} (l : List ℕ) (ls : List (List ℕ)) → Grown b d (l ∷ []) → Grown d c ls → Grown b c (l ∷ ls)
grown_on {b} l ls g h = record {
  messages = after is_m_or_s_line (message_texts b) l ls g.messages h.messages;
  routes = after is_r_line (route_texts b) l ls g.routes h.routes;
}

-- ---- one line more
-- the numbers of an R line that is taken are those of the line of its route
place_numbers : (x i : ℕ) → x < bus_limit → i < identifier_limit → (place_key x i / identifier_limit ≡ x) × (place_key x i % identifier_limit ≡ i)
place_numbers x i h l =
    let k = key_place (place_key x i) (key_fits x i h l) in
    says_both (place_key x i / identifier_limit) (place_key x i % identifier_limit) x i k.1 l k.2

same_route_line : (rs : List Route) (x i y j : ℕ) → route_refusal rs x i y j ≡ 0 → route_line (route x i y j) ≡ line.Route x i y j
same_route_line rs x i y j e =
    let a = route_allowed rs x i y j e in
    let p = place_numbers x i a.from_bus a.from_identifier in
    let q = place_numbers y j a.to_bus a.to_identifier in
    rw (p.0, p.1, q.0, q.1)

texts_more : (ls : List Line) (l : Line) → map line_text (ls ++ (l ∷ [])) ≡ map line_text ls ++ (line_text l ∷ [])
texts_more ls l = map-append line_text ls (l ∷ [])

-- a line that is taken is of one kind, and the book has it among those of its kind
grown_with : (b : Book) (l : Line) → refusal_of b l ≡ 0 → Grown b (with_line b l) (line_text l ∷ [])
unfolding refusal_of with_line line_text fields_of join is_m_or_s_line is_r_line
grown_with b (line.Message i) e = record {
  messages = ap (map line_text) (lines_message b.messages i) ∙ texts_more (message_lines b.messages) (line.Message i);
  routes = sym (append-nil (route_texts b));
}
grown_with b (line.Signal n s) e = record {
  messages = ap (map line_text) (lines_signal b.messages (placement n s) e) ∙ texts_more (message_lines b.messages) (line.Signal n s);
  routes = sym (append-nil (route_texts b));
}
grown_with b (line.Route x i y j) e = record {
  messages = sym (append-nil (message_texts b));
  routes = ap (map line_text) (map-append route_line b.routes (route x i y j ∷ [])) ∙ texts_more (map route_line b.routes) (route_line (route x i y j))
      ∙ ap (λ (l : Line). route_texts b ++ (line_text l ∷ [])) (same_route_line b.routes x i y j e);
}
grown_with b line.IllFormed e = ill_passes b e

kind_with : (b : Book) (l : Line) {ts : List TextLine} → refusal_of b l ≡ 0 → MSAndRLines ts → MSAndRLines (ended (line_text l) ∷ ts)
unfolding line_text fields_of join is_m_or_s_line is_r_line
kind_with b (line.Message i) e k = m_or_s_line refl k
kind_with b (line.Signal n s) e k = m_or_s_line refl k
kind_with b (line.Route x i y j) e k = r_line refl k
kind_with b line.IllFormed e k = ill_passes b e

-- ---- all lines
record Read (b c : Book) (ts : List TextLine) : Type 0 where
  pub kinds : MSAndRLines ts
  pub grown : Grown b c (map line_bytes ts)

read_on : (b : Book) (l : List ℕ) (ts : List TextLine) {c : Book} → refusal_of b (line_meaning l) ≡ 0
    → Read (with_line b (line_meaning l)) c ts → Read b c (ended l ∷ ts)
read_on b l ts {c} e r =
    let w = says_itself b l e in
    record {
      kinds = subst (λ (x : List ℕ). MSAndRLines (ended x ∷ ts)) (sym w.text) (kind_with b (line_meaning l) e r.kinds);
      grown = grown_on l (map line_bytes ts)
          (subst (λ (x : List ℕ). Grown b (with_line b (line_meaning l)) (x ∷ [])) (sym w.text) (grown_with b (line_meaning l) e)) r.grown;
    }

read_all : (n : ℕ) (b : Book) (at : List ℕ) (ts : List TextLine) {c : Book} {to : List ℕ} → read_from n b at (map meaning_of ts) ≡ passed c to → Read b c ts
unfolding read_from meaning_of
read_all n b at [] e =
    let f = same_book e in
    record {
      kinds = no_line;
      grown = record { messages = ap message_texts (sym f) ∙ sym (append-nil (message_texts b)); routes = ap route_texts (sym f) ∙ sym (append-nil (route_texts b)) };
    }
read_all n b at (ended l ∷ ts) e =
    let w = went (refusal_of b (line_meaning l)) n (read_from (suc n) (with_line b (line_meaning l)) (numbered_with at n (line_meaning l)) (map meaning_of ts)) e in
    read_on b l ts w.taken (read_all (suc n) (with_line b (line_meaning l)) (numbered_with at n (line_meaning l)) ts w.after)
read_all n b at (unended l ∷ ts) e =
    let w = went (refusal_of b line.IllFormed) n (read_from (suc n) (with_line b line.IllFormed) (numbered_with at n line.IllFormed) (map meaning_of ts)) e in
    ill_passes b w.taken

-- ---- of a text
module _ (text : List ℕ) {b : Book} {at : List ℕ} (e : lines_read text ≡ passed b at) where
  read : Read no_book b (lines text)
  unfolding lines_read meanings
  read = read_all 1 no_book [] (lines text) e

  -- EVERY LINE is ended by a newline, and an M or S line or an R line
  pub every_line : MSAndRLines (lines text)
  every_line = read.kinds

  -- the book's messages have the M and S lines, its routes the R lines
  pub message_lines_law : message_texts b ≡ message_lines_of text
  unfolding message_lines_of text_lines message_lines
  message_lines_law = read.grown.messages

  pub route_lines_law : route_texts b ≡ route_lines_of text
  unfolding route_lines_of text_lines
  route_lines_law = read.grown.routes
