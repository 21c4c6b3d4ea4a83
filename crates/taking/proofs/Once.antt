-- What came of the lines of a text is one thing, with one content of the words. Assumes nothing.
use mathlib.Core.Path.{◌≡◌, refl, sym, ap, ◌∙◌}
use mathlib.Core.List.{List}
use Prim.Native.Nat.{ℕ}
use native.Mathlib.Omega.{arith}
use Rattle.record.specs.Columns.{empty_book}
use Rattle.answers.specs.Numbers.{number}
use Rattle.answers.proofs.Numbered.{number_once}
use Rattle.books.specs.Book.{Book}
use Rattle.books.specs.Words.{words_of}
use Rattle.reading.specs.Reading.{Outcome, passed, refused, lines_read}
use Rattle.reading.proofs.Passing.{same_book, text_kept}
use Rattle.tables.specs.Adding.{Within}
use Rattle.tables.proofs.Room.{within_none}
use Rattle.std.specs.Prelude.{Result, Ok, Err}
use Rattle.answers.specs.declared.Refused.{Refused}
use Rattle.taking.specs.Taking.{PassedTo, Came}
use Rattle.taking.proofs.Steps.{within_line}
use Rattle.taking.proofs.Named.{text_named}

-- a book that lines give is within the limits
text_within : (text : List ℕ) {c : Book} {to : List ℕ} → lines_read text ≡ passed c to → Within c
text_within text e = text_kept (λ b ls. Within b) (λ b l ls r h. within_line b l h r) text e within_none

-- something came of them
pub came_there : (text : List ℕ) → (x : Result Unit Refused × List ℕ) × Came text x.0 x.1
came_there text = by (lines_read text) refl
  where
    by : (o : Outcome) → lines_read text ≡ o → (x : Result Unit Refused × List ℕ) × Came text x.0 x.1
    by (passed b at) e = ((Ok tt, words_of b), record { book = b; numbers = at; read = e; holds = record { words = refl; within = text_within text e } })
    by (refused why n) e =
        let r = text_named text why n e in
        ((Err (record { why = r.refusal; line = n }), empty_book), (e ∙ ap (λ (k : ℕ). refused k n) (sym r.is), refl))

-- and nothing else did
not_both : {A : Type 0} {text w : List ℕ} {why n : ℕ} → PassedTo text w → lines_read text ≡ refused why n → A
not_both p e = absurd (let f = p.read in let z : ◌≡◌ {A = ℕ} 0 1 = cc in omega arith)

pub came_once : (text : List ℕ) (r r' : Result Unit Refused) (w w' : List ℕ) → Came text r w → Came text r' w' → (r ≡ r') × (w ≡ w')
came_once text (Ok done) (Ok done') w w' c d =
    (refl, c.holds.words ∙ ap words_of (same_book (sym c.read ∙ d.read)) ∙ sym d.holds.words)
came_once text (Ok done) (Err r) w w' c d = not_both c d.0
came_once text (Err r) (Ok done) w w' c d = not_both d c.0
came_once text (Err r) (Err s) w w' c d =
    let e : refused (number r.why) r.line ≡ refused (number s.why) s.line = sym c.0 ∙ d.0 in
    let k : number r.why ≡ number s.why = cc in
    let x : r.why ≡ s.why = number_once r.why s.why k in
    let y : r.line ≡ s.line = cc in
    (λ i. Err (record { why = x i; line = y i }), c.1 ∙ sym d.1)
