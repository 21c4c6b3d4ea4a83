-- Reading lines one after the other: what a run of lines that pass comes to, and that its messages are built line by line. Assumes nothing.
use mathlib.Core.Path.{◌≡◌, refl, sym, ap, ◌∙◌, subst}
use Prim.Native.Nat.{ℕ, zero, suc, ◌+◌}
use native.Mathlib.Omega.{arith}
use native.Mathlib.Nat.{add-suc, suc-add}
use mathlib.Core.List.{List, [], ◌∷◌, ◌++◌}
use lib.ListN.{length}
use Rattle.line.specs.declared.Line.{Line}
use Rattle.line.specs.declared.Line.TheVariants as line
use Rattle.books.specs.Book.{Book, no_book}
use Rattle.books.specs.Built.{Built, none, message, signal}
use Rattle.reading.specs.Reading.{Outcome, passed, onward, refusal_of, with_line, numbered_with, read_from, meanings, lines_read}

-- lines that pass: the first is not refused, and the others pass
pub record Went (why : ℕ) (later : Outcome) (c : Book) (at : List ℕ) : Type 0 where
  pub taken : why ≡ 0
  pub after : later ≡ passed c at

pub went : (why n : ℕ) (later : Outcome) {c : Book} {at : List ℕ} → onward why n later ≡ passed c at → Went why later c at
unfolding onward
went zero n later e = record { taken = refl; after = e }
went (suc why) n later e = let z : ◌≡◌ {A = ℕ} 0 1 = cc in absurd (omega arith)

pub goes_on : (why n : ℕ) (later : Outcome) → why ≡ 0 → onward why n later ≡ later
unfolding onward
goes_on why n later e = rw e refl

pub same_book : {b c : Book} {at to : List ℕ} → passed b at ≡ passed c to → b ≡ c
same_book e = cc

-- what holds of a book and the lines to come, and stays so with each line that is taken, holds of the book that the lines of a text give
kept_on : (P : Book → List Line → Type 0) → ((b : Book) (l : Line) (ls : List Line) → refusal_of b l ≡ 0 → P b (l ∷ ls) → P (with_line b l) ls)
    → (n : ℕ) (b : Book) (at : List ℕ) (ls : List Line) {c : Book} {to : List ℕ} → read_from n b at ls ≡ passed c to → P b ls → P c []
unfolding read_from
kept_on P keeps n b at [] e h = subst (λ (x : Book). P x []) (same_book e) h
kept_on P keeps n b at (l ∷ ls) e h =
    let w = went (refusal_of b l) n (read_from (suc n) (with_line b l) (numbered_with at n l) ls) e in
    kept_on P keeps (suc n) (with_line b l) (numbered_with at n l) ls w.after (keeps b l ls w.taken h)

pub text_kept : (P : Book → List Line → Type 0) → ((b : Book) (l : Line) (ls : List Line) → refusal_of b l ≡ 0 → P b (l ∷ ls) → P (with_line b l) ls)
    → (text : List ℕ) {c : Book} {to : List ℕ} → lines_read text ≡ passed c to → P no_book (meanings text) → P c []
unfolding lines_read
text_kept P keeps text e h = kept_on P keeps 1 no_book [] (meanings text) e h

-- one line more
pub built_with : (b : Book) (l : Line) → Built b.messages → refusal_of b l ≡ 0 → Built (with_line b l).messages
unfolding refusal_of with_line
built_with b (line.Message i) h e = message i h e
built_with b (line.Signal n s) h e = signal (record { number = n; start = s }) h e
built_with b (line.Route x i y j) h e = h
built_with b line.IllFormed h e = h

-- the messages of a book that lines give are built line by line
pub read_built : (text : List ℕ) {c : Book} {to : List ℕ} → lines_read text ≡ passed c to → Built c.messages
read_built text e = text_kept (λ b ls. Built b.messages) (λ b l ls r h. built_with b l h r) text e none

-- lines after lines that pass
pub read_append : (n : ℕ) (b : Book) (at : List ℕ) (ls ms : List Line) {c : Book} {to : List ℕ} → read_from n b at ls ≡ passed c to
    → read_from n b at (ls ++ ms) ≡ read_from (n + length ls) c to ms
unfolding read_from
read_append n b at [] ms e = let z : n + 0 ≡ n = omega arith in cc
read_append n b at (l ∷ ls) ms {c} {to} e =
    let w = went (refusal_of b l) n (read_from (suc n) (with_line b l) (numbered_with at n l) ls) e in
    goes_on (refusal_of b l) n (read_from (suc n) (with_line b l) (numbered_with at n l) (ls ++ ms)) w.taken ∙
    read_append (suc n) (with_line b l) (numbered_with at n l) ls ms w.after ∙
    ap (λ (k : ℕ). read_from k c to ms) (suc-add n (length ls) ∙ sym (add-suc n (length ls)))
