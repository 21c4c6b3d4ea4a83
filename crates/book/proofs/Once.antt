-- Each text has one answer and leaves one book, and no other. Assumes nothing.
use mathlib.Core.Path.{◌≡◌, refl, sym, ap, ◌∙◌}
use mathlib.Core.Bool.{Bool, true, false}
use mathlib.Core.List.{List}
use Prim.Native.Nat.{ℕ, ◌≤◌, ◌<◌}
use native.Mathlib.Omega.{arith}
use lib.Dec.{ltb}
use lib.ListN.{length, get_or}
use borrow.Author.Tests.{ltb-true, ltb-false}
use Rattle.record.specs.Limits.{text_limit}
use Rattle.record.specs.Columns.{empty_book}
use Rattle.verdict.specs.Verdicts.{Judged}
use Rattle.verdict.specs.declared.Verdict.{Verdict}
use Rattle.verdict.specs.declared.Verdict.TheVariants as verdict
use Rattle.verdict.proofs.Once.{judged, judged_once}
use Rattle.answers.specs.declared.Refusal.TheVariants as refusal
use Rattle.std.specs.Prelude.{Result, Ok, Err}
use Rattle.answers.specs.declared.Counts.{Counts}
use Rattle.answers.specs.declared.Refused.{Refused}
use Rattle.answers.specs.Numbers.{number, Said, taken, refused, said}
use Rattle.answers.proofs.Numbered.{number_once}
use Rattle.books.specs.Book.{Book, all_placements}
use Rattle.books.specs.Words.{words_of}
use Rattle.reading.specs.Reading.{Outcome, passed, lines_read}
use Rattle.reading.specs.Reading as lines
use Rattle.reading.specs.Taken.{froms, tos}
use Rattle.taking.proofs.Named.{Named, text_named}
use Rattle.book.specs.Answered.{Passes, Answered, too_long, bad_line, closed_chain, two_chains, taken_with}

-- what a verdict on the routes of a book comes to
unfoldable pub of_verdict : Book → List ℕ → Verdict → Said × List ℕ
of_verdict b at (verdict.Loop i) = (refused 10 (get_or at i 0), empty_book)
of_verdict b at (verdict.Doubling i) = (refused 11 (get_or at i 0), empty_book)
of_verdict b at verdict.Sound =
    (taken (length b.messages) (length (all_placements b.messages)) (length b.routes), words_of b)

-- an answer comes about in one of three ways
pub data Way (text : List ℕ) (x : Said × List ℕ) : Type 0 where
  long : text_limit < length text → x ≡ (refused 1 0, empty_book) → Way text x
  bad : (why n : ℕ) → length text ≤ text_limit → lines_read text ≡ lines.refused why n → x ≡ (refused why n, empty_book) → Way text x
  by : (b : Book) (at : List ℕ) (v : Verdict) → Passes text b at → Judged (froms b.routes) (tos b.routes) v → x ≡ of_verdict b at v → Way text x

pub way : {text : List ℕ} {p : Said} {w : List ℕ} → Answered text p w → Way text (p, w)
unfolding of_verdict
way (too_long h) = long h refl
way (bad_line h e) = bad _ _ h e refl
way (closed_chain {b} {at} {i} p l) = by b at (verdict.Loop i) p l refl
way (two_chains {b} {at} {i} p f l) = by b at (verdict.Doubling i) p (f, l) refl
way (taken_with {b} t) = by b t.at verdict.Sound (record { short = t.short; read = t.read }) (record { loop_free = t.sound.loop_free; single = t.sound.single }) refl

never : {A : Type 0} {why n : ℕ} {b : Book} {at : List ℕ} {o : Outcome} → o ≡ lines.refused why n → o ≡ passed b at → A
never e f = absurd (let z : ◌≡◌ {A = ℕ} 0 1 = cc in omega arith)

ways : {text : List ℕ} {x y : Said × List ℕ} → Way text x → Way text y → x ≡ y
ways (long h e) (long g f) = e ∙ sym f
ways (long h e) (bad why n g r f) = absurd (omega arith)
ways (long h e) (by b at v p j f) = absurd (omega (arith, p.short))
ways (bad why n g r e) (long h f) = absurd (omega arith)
ways (bad why n g r e) (bad why' n' g' r' f) =
    let z : ◌≡◌ {A = Said} (refused why n) (refused why' n') = (let a : why ≡ why' = cc in let b : n ≡ n' = cc in cc) in
    e ∙ ap (λ (s : Said). (s, empty_book)) z ∙ sym f
ways (bad why n g r e) (by b at v p j f) = never r p.read
ways (by b at v p j e) (long h f) = absurd (omega (arith, p.short))
ways (by b at v p j e) (bad why n g r f) = never r p.read
ways (by b at v p j e) (by b' at' v' p' j' f) =
    let a : b ≡ b' = (let r = p.read in let r' = p'.read in cc) in
    let c : at ≡ at' = (let r = p.read in let r' = p'.read in cc) in
    let d : v ≡ v' = judged_once (froms b.routes) (tos b.routes) v v' j (rw a j') in
    e ∙ rw (a, c, d) (sym f)

pub answered_once : {text : List ℕ} {p q : Said} {v w : List ℕ} → Answered text p v → Answered text q w → ◌≡◌ {A = Said × List ℕ} (p, v) (q, w)
answered_once a b = ways (way a) (way b)

-- there is an answer
pub record There (text : List ℕ) : Type 0 where
  pub answer : Result Counts Refused
  pub words : List ℕ
  pub answered : Answered text (said answer) words

module _ (text : List ℕ) where
  judges : (b : Book) (at : List ℕ) → Passes text b at → (v : Verdict) → Judged (froms b.routes) (tos b.routes) v → There text
  judges b at p (verdict.Loop i) j = record { answer = Err (record { why = refusal.ClosedChain; line = get_or at i 0 }); words = empty_book; answered = closed_chain p j }
  judges b at p (verdict.Doubling i) j = record { answer = Err (record { why = refusal.TwoChains; line = get_or at i 0 }); words = empty_book; answered = two_chains p j.0 j.1 }
  judges b at p verdict.Sound j =
      record {
        answer = Ok (record { messages = length b.messages; signals = length (all_placements b.messages); routes = length b.routes });
        words = words_of b;
        answered = taken_with (record { short = p.short; at = at; read = p.read; sound = record { loop_free = j.loop_free; single = j.single } });
      }

  come : length text ≤ text_limit → (o : Outcome) → lines_read text ≡ o → There text
  come h (passed b at) e =
      let v = judged (froms b.routes) (tos b.routes) in
      judges b at (record { short = h; read = e }) v.0 v.1
  come h (lines.refused why n) e =
      let r : Named why = text_named text why n e in
      record { answer = Err (record { why = r.refusal; line = n }); words = empty_book; answered = rw r.is (bad_line h e) }

  pub there : There text
  there = by (ltb text_limit (length text)) refl
    where
      by : (q : Bool) → ltb text_limit (length text) ≡ q → There text
      by true q = record { answer = Err (record { why = refusal.TooLong; line = 0 }); words = empty_book; answered = too_long (ltb-true _ _ q) }
      by false q = come (ltb-false _ _ q) (lines_read text) refl

-- an answer is told by what it says
said_once : (a b : Result Counts Refused) → said a ≡ said b → a ≡ b
said_once (Ok c) (Ok d) e =
    let x : c.messages ≡ d.messages = cc in
    let y : c.signals ≡ d.signals = cc in
    let z : c.routes ≡ d.routes = cc in
    λ i. Ok (record { messages = x i; signals = y i; routes = z i })
said_once (Err r) (Err s) e =
    let x = number_once r.why s.why (let z : number r.why ≡ number s.why = cc in z) in
    let y : r.line ≡ s.line = cc in
    λ i. Err (record { why = x i; line = y i })
said_once (Ok c) (Err r) e = absurd (let z : ◌≡◌ {A = ℕ} 0 1 = cc in omega arith)
said_once (Err r) (Ok c) e = absurd (let z : ◌≡◌ {A = ℕ} 0 1 = cc in omega arith)

-- and no other
pub alone : (text : List ℕ) (x : Result Counts Refused × List ℕ) → Answered text (said x.0) x.1 → x ≡ ((there text).answer, (there text).words)
alone text x a =
    let e : ◌≡◌ {A = Said × List ℕ} (said x.0, x.1) (said (there text).answer, (there text).words) = answered_once a (there text).answered in
    let f : x.0 ≡ (there text).answer = said_once x.0 (there text).answer (ap (λ (y : Said × List ℕ). y.0) e) in
    let g : x.1 ≡ (there text).words = ap (λ (y : Said × List ℕ). y.1) e in
    λ i. (f i, g i)
