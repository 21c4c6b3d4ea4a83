-- Refusals 2 to 9 exactly: a text that is not too long is refused with one of them, at a line, exactly where that line is the first that
-- doesn't pass and the number the lowest that it deserves. Assumes nothing.
use mathlib.Core.Path.{◌≡◌, refl, sym, ap, ◌∙◌, subst}
use mathlib.Core.Logic.{◌↔◌}
use Prim.Native.Nat.{ℕ, zero, suc, ◌+◌, ◌≤◌, ◌<◌}
use native.Mathlib.Omega.{arith}
use native.Mathlib.Numerals.{one-add}
use mathlib.Core.List.{List, [], ◌∷◌, ◌++◌, append_assoc, append-nil}
use lib.ListN.{length}
use Rattle.record.specs.Limits.{text_limit}
use Rattle.answers.specs.Numbers.{Said, refused}
use Rattle.line.specs.declared.Line.{Line}
use Rattle.line.specs.declared.Line.TheVariants as line
use Rattle.books.specs.Book.{Book, no_book, placement}
use Rattle.books.specs.Built.{Built}
use Rattle.books.proofs.Ends.{length_more}
use Rattle.books.proofs.Order.{message_lowest, signal_least, signal_lowest, route_lowest}
use Rattle.reading.specs.Reading.{Outcome, passed, onward, refusal_of, with_line, numbered_with, read_from, meanings, lines_read}
use Rattle.reading.specs.Reading as lines
use Rattle.reading.proofs.Passing.{went, goes_on, same_book, built_with, read_append}
use Rattle.book.specs.Answered.{Answered, too_long, bad_line, closed_chain, two_chains, taken_with}
use Rattle.demands.specs.FirstBad.{LineDue, form, message, signal, route, Pass, none, more, AllPass, FirstBad}
use Rattle.demands.specs.Loops.{LinesPass}

-- what the reader refuses a line with is the lowest that it deserves
least : (b : Book) (l : Line) (n : ℕ) → LineDue b l n → (0 < refusal_of b l) × (refusal_of b l ≤ n)
unfolding refusal_of
least b (line.Message i) n (message d) = (message_lowest b.messages i).lowest n d
least b (line.Signal m s) n (signal d) = signal_least b.messages (placement m s) n d
least b (line.Route a i c j) n (route d) = (route_lowest b.routes a i c j).lowest n d
least b line.IllFormed n form = (omega arith, omega arith)

deserves : (b : Book) (l : Line) → Built b.messages → 0 < refusal_of b l → LineDue b l (refusal_of b l)
unfolding refusal_of
deserves b (line.Message i) w h = message ((message_lowest b.messages i).due h)
deserves b (line.Signal m s) w h = signal ((signal_lowest b.messages (placement m s) w).due h)
deserves b (line.Route a i c j) w h = route ((route_lowest b.routes a i c j).due h)
deserves b line.IllFormed w h = form

none_due : (b : Book) (l : Line) → refusal_of b l ≡ 0 → (n : ℕ) → LineDue b l n → ⊥
none_due b l e n d = omega (arith, (least b l n d).0)

not_due : (b : Book) (l : Line) → Built b.messages → ((n : ℕ) → LineDue b l n → ⊥) → refusal_of b l ≡ 0
not_due b l w h = go (refusal_of b l) refl
  where
    go : (k : ℕ) → refusal_of b l ≡ k → k ≡ 0
    go zero e = refl
    go (suc k) e = absurd (h (refusal_of b l) (deserves b l w (omega arith)))

-- the messages of lines that pass are built line by line
pass_built : {ls : List Line} {b : Book} → Pass ls b → Built b.messages
pass_built none = Built.none
pass_built (more {b = b} l p none-deserved) = built_with b l (pass_built p) (not_due b l (pass_built p) none-deserved)

-- lines that the reader passes are lines that pass
read_pass : (n : ℕ) (front : List Line) (b : Book) (at : List ℕ) (ls : List Line) {c : Book} {to : List ℕ} → Pass front b → read_from n b at ls ≡ passed c to → Pass (front ++ ls) c
unfolding read_from
read_pass n front b at [] {c} p e = subst (λ (x : List Line). Pass x c) (sym (append-nil front)) (subst (Pass front) (same_book e) p)
read_pass n front b at (l ∷ ls) {c} p e =
    let w = went (refusal_of b l) n (read_from (suc n) (with_line b l) (numbered_with at n l) ls) e in
    subst (λ (x : List Line). Pass x c) (append_assoc front (l ∷ []) ls)
    (read_pass (suc n) (front ++ (l ∷ [])) (with_line b l) (numbered_with at n l) ls (more l p (none_due b l w.taken)) w.after)

-- and the other way
pass_read : {ls : List Line} {b : Book} → Pass ls b → (at : List ℕ) × (read_from 1 no_book [] ls ≡ passed b at)
unfolding read_from
pass_read none = ([], refl)
pass_read (more {ls} {b} l p none-deserved) =
    let r = pass_read p in
    (numbered_with r.0 (1 + length ls) l, read_append 1 no_book [] ls (l ∷ []) r.1 ∙ goes_on (refusal_of b l) (1 + length ls) _ (not_due b l (pass_built p) none-deserved))

-- the lines of a text pass in one sentence as in the other
pub lines_pass : (text : List ℕ) → LinesPass text ↔ AllPass text
unfolding lines_read
lines_pass text = (
  λ l. record { short = l.passes.short; book = l.book; passes = read_pass 1 [] no_book [] (meanings text) none l.passes.read },
  λ a. let r = pass_read a.passes in record { book = a.book; at = r.0; passes = record { short = a.short; read = r.1 } },
)

-- the first line that the reader refuses
first_from : (n : ℕ) (front : List Line) (b : Book) (at : List ℕ) (ls : List Line) (why m : ℕ) (text : List ℕ) → Pass front b → n ≡ suc (length front) → meanings text ≡ front ++ ls
    → read_from n b at ls ≡ lines.refused why m → FirstBad text why m
unfolding read_from onward
first_from n front b at [] why m text p c s e = absurd (let z : ◌≡◌ {A = ℕ} 0 1 = cc in omega arith)
first_from n front b at (l ∷ ls) why m text p c s e =
    by (refusal_of b l) refl e
    (λ q. first_from (suc n) (front ++ (l ∷ [])) (with_line b l) (numbered_with at n l) ls why m text (more l p (none_due b l q))
    (omega (arith, length_more front l)) (s ∙ sym (append_assoc front (l ∷ []) ls)))
  where
    by : (k : ℕ) → refusal_of b l ≡ k → onward k n (read_from (suc n) (with_line b l) (numbered_with at n l) ls) ≡ lines.refused why m
        → (refusal_of b l ≡ 0 → read_from (suc n) (with_line b l) (numbered_with at n l) ls ≡ lines.refused why m → FirstBad text why m) → FirstBad text why m
    by zero q f later = later q f
    by (suc k) q f later =
        let y : suc k ≡ why = cc in
        let x : n ≡ m = cc in
        record {
          before = front;
          bad = l;
          after = ls;
          whole = s;
          number = omega arith;
          book = b;
          passes = p;
          deserved = subst (LineDue b l) (q ∙ y) (deserves b l (pass_built p) (omega arith));
          lowest = λ j d. omega (arith, (least b l j d).1);
        }

-- so it is refused with that number, at that line
first_refused : (text : List ℕ) (why n : ℕ) → FirstBad text why n → lines_read text ≡ lines.refused why n
unfolding lines_read read_from onward
first_refused text why n f =
    let r = pass_read f.passes in
    let low = least f.book f.bad why f.deserved in
    let same : refusal_of f.book f.bad ≡ why = omega (arith, low.1, f.lowest _ (deserves f.book f.bad (pass_built f.passes) low.0)) in
    ap (read_from 1 no_book []) f.whole ∙ read_append 1 no_book [] f.before (f.bad ∷ f.after) r.1 ∙
    stops (refusal_of f.book f.bad) (1 + length f.before) _ low.0 ∙
    ap (λ (k : ℕ). lines.refused k (1 + length f.before)) same ∙ ap (lines.refused why) (one-add (length f.before) ∙ sym f.number)
  where
    stops : (k m : ℕ) (later : Outcome) → 0 < k → onward k m later ≡ lines.refused k m
    stops zero m later h = absurd (omega arith)
    stops (suc k) m later h = refl

-- the reader's answer on a text that is not too long: refused with one of 2 to 9 exactly where there is a first bad line
module _ (text : List ℕ) (short : length text ≤ text_limit) (why n : ℕ) where
  pub bad_first : (w : List ℕ) → Answered text (refused why n) w → 2 ≤ why → why ≤ 9 → FirstBad text why n
  unfolding lines_read
  bad_first w a least-2 most-9 = from (refused why n) w refl a
    where
      from : (s : Said) (v : List ℕ) → s ≡ refused why n → Answered text s v → FirstBad text why n
      from s v e (too_long h) = absurd (omega arith)
      from s v e (bad_line {why = y} {n = m} h r) =
          let same : lines.refused y m ≡ lines.refused why n = (let x : y ≡ why = cc in let z : m ≡ n = cc in cc) in
          read_first (r ∙ same)
        where
          read_first : lines_read text ≡ lines.refused why n → FirstBad text why n
          read_first q = first_from 1 [] no_book [] (meanings text) why n text none refl refl q
      from s v e (closed_chain p l) = absurd (let z : ◌≡◌ {A = ℕ} 10 why = cc in omega arith)
      from s v e (two_chains p f l) = absurd (let z : ◌≡◌ {A = ℕ} 11 why = cc in omega arith)
      from s v e (taken_with t) = absurd (let z : ◌≡◌ {A = ℕ} 0 1 = cc in omega arith)

  pub first_bad : (s : Said) (w : List ℕ) → Answered text s w → FirstBad text why n → s ≡ refused why n
  first_bad s w a f = from a
    where
      r : lines_read text ≡ lines.refused why n
      r = first_refused text why n f

      clash : {A : Type 0} {b : Book} {at : List ℕ} → lines_read text ≡ passed b at → A
      clash q = absurd (let z : ◌≡◌ {A = ℕ} 0 1 = cc (r) in omega arith)

      from : {s : Said} {w : List ℕ} → Answered text s w → s ≡ refused why n
      from (too_long h) = absurd (omega arith)
      from (bad_line {why = y} {n = m} h q) = let x : y ≡ why = cc (r) in let z : m ≡ n = cc (r) in cc
      from (closed_chain p l) = clash p.read
      from (two_chains p g l) = clash p.read
      from (taken_with t) = clash t.read
