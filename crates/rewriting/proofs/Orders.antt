-- THE TEXTS OF ONE BOOK: they have the same M and S lines and the same R lines, each in the same order, and every text that has them, in
-- whatever order the M and S lines and the R lines stand to each other, is read as that book. Assumes nothing.
use mathlib.Core.Path.{◌≡◌, refl, sym, ap, ◌∙◌, subst}
use mathlib.Core.Bool.{true, true≢false}
use mathlib.Core.List.{List, [], ◌∷◌, map}
use Prim.Native.Nat.{ℕ, suc}
use Rattle.lists.specs.Lists.{those}
use Rattle.parts.specs.Parts.{TextLine, ended, lines}
use Rattle.parts.specs.Joined.{join}
use Rattle.line.specs.declared.Line.{Line}
use Rattle.line.specs.declared.Line.TheVariants as line
use Rattle.line.specs.Meaning.{line_meaning, meaning_of}
use Rattle.line.specs.Written.{fields_of, line_text}
use Rattle.books.specs.Book.{Book, Message, Route, no_book}
use Rattle.reading.specs.Reading.{passed, refusal_of, with_line, numbered_with, read_from, meanings, lines_read}
use Rattle.reading.proofs.Passing.{went, goes_on, same_book}
use Rattle.reading.proofs.Bytes.{says_itself}
use Rattle.reading.proofs.Writes.{only_messages}
use Rattle.rewriting.specs.LineKinds.{line_bytes, text_lines, is_m_or_s_line, is_r_line, message_lines_of, route_lines_of, MSAndRLines, no_line, m_or_s_line, r_line}
use Rattle.rewriting.proofs.Growing.{every_line, message_lines_law, route_lines_law}
use Rattle.rewriting.proofs.Parted.{m_or_s_only, r_only}

-- ---- what a line says, by its kind
data OfMessage : Line → Type 0 where
  an_m : {i : ℕ} → OfMessage (line.Message i)
  an_s : {n s : ℕ} → OfMessage (line.Signal n s)

data OfRoute : Line → Type 0 where
  an_r : {x i y j : ℕ} → OfRoute (line.Route x i y j)

of_message_law : (m : Line) → is_m_or_s_line (line_text m) ≡ true → OfMessage m
unfolding line_text fields_of join is_m_or_s_line
of_message_law (line.Message i) k = an_m
of_message_law (line.Signal n s) k = an_s
of_message_law (line.Route x i y j) k = absurd (true≢false (sym k))
of_message_law line.IllFormed k = absurd (true≢false (sym k))

of_route_law : (m : Line) → is_r_line (line_text m) ≡ true → OfRoute m
unfolding line_text fields_of join is_r_line
of_route_law (line.Message i) k = absurd (true≢false (sym k))
of_route_law (line.Signal n s) k = absurd (true≢false (sym k))
of_route_law (line.Route x i y j) k = an_r
of_route_law line.IllFormed k = absurd (true≢false (sym k))

says_message : (b : Book) (l : List ℕ) → refusal_of b (line_meaning l) ≡ 0 → is_m_or_s_line l ≡ true → OfMessage (line_meaning l)
says_message b l e k = of_message_law (line_meaning l) (ap is_m_or_s_line (sym (says_itself b l e).text) ∙ k)

says_route : (b : Book) (l : List ℕ) → refusal_of b (line_meaning l) ≡ 0 → is_r_line l ≡ true → OfRoute (line_meaning l)
says_route b l e k = of_route_law (line_meaning l) (ap is_r_line (sym (says_itself b l e).text) ∙ k)

-- ---- M and S lines ask the messages alone, R lines the routes alone
abbrev only_routes : List Route → Book
only_routes rs = record { messages = []; routes = rs }

record ByMessages (b : Book) (m : Line) : Type 0 where
  pub refusal : refusal_of b m ≡ refusal_of (only_messages b.messages) m
  pub messages : (with_line b m).messages ≡ (with_line (only_messages b.messages) m).messages
  pub routes : (with_line b m).routes ≡ b.routes

by_messages : (b : Book) {m : Line} → OfMessage m → ByMessages b m
unfolding refusal_of with_line
by_messages b an_m = record { refusal = refl; messages = refl; routes = refl }
by_messages b an_s = record { refusal = refl; messages = refl; routes = refl }

record ByRoutes (b : Book) (m : Line) : Type 0 where
  pub refusal : refusal_of b m ≡ refusal_of (only_routes b.routes) m
  pub messages : (with_line b m).messages ≡ b.messages
  pub routes : (with_line b m).routes ≡ (with_line (only_routes b.routes) m).routes

by_routes : (b : Book) {m : Line} → OfRoute m → ByRoutes b m
unfolding refusal_of with_line
by_routes b an_r = record { refusal = refl; messages = refl; routes = refl }

-- lines that pass after some messages, and after some routes
abbrev MessagesPass : List Message → List (List ℕ) → List Message → Type 0
MessagesPass ms [] to = ms ≡ to
MessagesPass ms (l ∷ ls) to =
    (refusal_of (only_messages ms) (line_meaning l) ≡ 0) × MessagesPass (with_line (only_messages ms) (line_meaning l)).messages ls to

abbrev RoutesPass : List Route → List (List ℕ) → List Route → Type 0
RoutesPass rs [] to = rs ≡ to
RoutesPass rs (l ∷ ls) to =
    (refusal_of (only_routes rs) (line_meaning l) ≡ 0) × RoutesPass (with_line (only_routes rs) (line_meaning l)).routes ls to

messages_after : (ls : List (List ℕ)) (to : List Message) {x y : List Message} → x ≡ y → MessagesPass x ls to → MessagesPass y ls to
messages_after ls to e p = subst (λ (ms : List Message). MessagesPass ms ls to) e p

routes_after : (ls : List (List ℕ)) (to : List Route) {x y : List Route} → x ≡ y → RoutesPass x ls to → RoutesPass y ls to
routes_after ls to e p = subst (λ (rs : List Route). RoutesPass rs ls to) e p

-- both, of lines in some order
record BothPass (b : Book) (ls : List (List ℕ)) (c : Book) : Type 0 where
  pub messages : MessagesPass b.messages (those is_m_or_s_line ls) c.messages
  pub routes : RoutesPass b.routes (those is_r_line ls) c.routes

-- ---- lines that pass, pass by kind
apart : (n : ℕ) (b : Book) (at : List ℕ) {ts : List TextLine} {c : Book} {to : List ℕ} → MSAndRLines ts
    → read_from n b at (map meaning_of ts) ≡ passed c to → BothPass b (map line_bytes ts) c
unfolding read_from meaning_of
apart n b at no_line e = let f = same_book e in record { messages = ap (λ (x : Book). x.messages) f; routes = ap (λ (x : Book). x.routes) f }
apart n b at {c = c} (m_or_s_line {l} {ls} k ks) e =
    let m = line_meaning l in
    let w = went (refusal_of b m) n (read_from (suc n) (with_line b m) (numbered_with at n m) (map meaning_of ls)) e in
    let h = apart (suc n) (with_line b m) (numbered_with at n m) ks w.after in
    let f = by_messages b (says_message b l w.taken k) in
    record {
      messages = rw k (sym f.refusal ∙ w.taken, messages_after (those is_m_or_s_line (map line_bytes ls)) c.messages f.messages h.messages);
      routes = rw (m_or_s_only l k) (routes_after (those is_r_line (map line_bytes ls)) c.routes f.routes h.routes);
    }
apart n b at {c = c} (r_line {l} {ls} k ks) e =
    let m = line_meaning l in
    let w = went (refusal_of b m) n (read_from (suc n) (with_line b m) (numbered_with at n m) (map meaning_of ls)) e in
    let h = apart (suc n) (with_line b m) (numbered_with at n m) ks w.after in
    let f = by_routes b (says_route b l w.taken k) in
    record {
      messages = rw (r_only l k) (messages_after (those is_m_or_s_line (map line_bytes ls)) c.messages f.messages h.messages);
      routes = rw k (sym f.refusal ∙ w.taken, routes_after (those is_r_line (map line_bytes ls)) c.routes f.routes h.routes);
    }

-- ---- lines that pass by kind, pass
same_parts : {b c : Book} → b.messages ≡ c.messages → b.routes ≡ c.routes → b ≡ c
same_parts f g = λ i. record { messages = f i; routes = g i }

PassesTo : ℕ → Book → List ℕ → List TextLine → Book → Type 0
PassesTo n b at ts c = (to : List ℕ) × (read_from n b at (map meaning_of ts) ≡ passed c to)

line_before : (n : ℕ) (b : Book) (at l : List ℕ) (ts : List TextLine) (c : Book) → refusal_of b (line_meaning l) ≡ 0
    → PassesTo (suc n) (with_line b (line_meaning l)) (numbered_with at n (line_meaning l)) ts c → PassesTo n b at (ended l ∷ ts) c
unfolding read_from meaning_of PassesTo
line_before n b at l ts c e (to, f) = (to, goes_on (refusal_of b (line_meaning l)) n _ e ∙ f)

together : (n : ℕ) (b : Book) (at : List ℕ) {ts : List TextLine} {c : Book} → MSAndRLines ts → BothPass b (map line_bytes ts) c → PassesTo n b at ts c
unfolding read_from PassesTo
together n b at no_line h = (at, ap (λ (x : Book). passed x at) (same_parts h.messages h.routes))
together n b at {c = c} (m_or_s_line {l} {ls} k ks) h =
    let p : MessagesPass b.messages (l ∷ those is_m_or_s_line (map line_bytes ls)) c.messages = rw k at h.messages in
    let q : RoutesPass b.routes (those is_r_line (map line_bytes ls)) c.routes = rw (m_or_s_only l k) at h.routes in
    let f = by_messages b (says_message (only_messages b.messages) l p.0 k) in
    line_before n b at l ls c (f.refusal ∙ p.0) (together (suc n) _ _ ks (record {
      messages = messages_after (those is_m_or_s_line (map line_bytes ls)) c.messages (sym f.messages) p.1;
      routes = routes_after (those is_r_line (map line_bytes ls)) c.routes (sym f.routes) q;
    }))
together n b at {c = c} (r_line {l} {ls} k ks) h =
    let p : MessagesPass b.messages (those is_m_or_s_line (map line_bytes ls)) c.messages = rw (r_only l k) at h.messages in
    let q : RoutesPass b.routes (l ∷ those is_r_line (map line_bytes ls)) c.routes = rw k at h.routes in
    let f = by_routes b (says_route (only_routes b.routes) l q.0 k) in
    line_before n b at l ls c (f.refusal ∙ q.0) (together (suc n) _ _ ks (record {
      messages = messages_after (those is_m_or_s_line (map line_bytes ls)) c.messages (sym f.messages) p;
      routes = routes_after (those is_r_line (map line_bytes ls)) c.routes (sym f.routes) q.1;
    }))

-- ---- of a text
module _ (text other : List ℕ) {b : Book} {at : List ℕ} (e : lines_read text ≡ passed b at) where
  -- ONLY THE ORDER between the two kinds may differ: another text of the book has the same M and S lines, and the same R lines
  pub only_order : {to : List ℕ} → lines_read other ≡ passed b to → (message_lines_of other ≡ message_lines_of text) × (route_lines_of other ≡ route_lines_of text)
  only_order f = (sym (message_lines_law other f) ∙ message_lines_law text e, sym (route_lines_law other f) ∙ route_lines_law text e)

  -- EVERY ORDER between them comes in: a text with the same M and S lines and the same R lines, and no others, is read as the same book
  pub any_order : MSAndRLines (lines other) → message_lines_of other ≡ message_lines_of text → route_lines_of other ≡ route_lines_of text
      → (to : List ℕ) × (lines_read other ≡ passed b to)
  unfolding lines_read meanings message_lines_of route_lines_of text_lines PassesTo
  any_order k m r =
      let h = apart 1 no_book [] (every_line text e) e in
      together 1 no_book [] k (record {
        messages = subst (λ (x : List (List ℕ)). MessagesPass [] x b.messages) (sym m) h.messages;
        routes = subst (λ (x : List (List ℕ)). RoutesPass [] x b.routes) (sym r) h.routes;
      })
