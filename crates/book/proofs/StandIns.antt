-- Readers that the contract throws out: one that refuses every text, one that takes every text, one that leaves something behind
-- where it refuses, one that makes up its counts. Assumes nothing.
use mathlib.Core.Path.{◌≡◌, refl, sym, ap}
use mathlib.Core.List.{List, [], ◌∷◌}
use Prim.Native.Nat.{ℕ}
use native.Mathlib.Omega.{arith}
use lib.ListN.{length}
use Rattle.record.specs.Columns.{empty_book}
use Rattle.verdict.specs.declared.Verdict.{Verdict}
use Rattle.verdict.specs.declared.Verdict.TheVariants as verdict
use Rattle.answers.specs.Numbers.{Said, taken, refused}
use Rattle.parts.specs.Parts.{lines, lines_of, split, on_first}
use Rattle.line.specs.Meaning.{meaning_of, line_meaning, of_fields, of_kind, of_message}
use Rattle.books.specs.Book.{Book, all_placements}
use Rattle.reading.specs.Reading.{passed, onward, read_from, refusal_of, meanings, lines_read}
use Rattle.reading.specs.Taken.{LineCounts}
use Rattle.reading.proofs.Counts.{text_counted}
use Rattle.reading.proofs.Exact.{no_routes_sound}
use Rattle.taking.proofs.Going.{empty_words}
use Rattle.book.specs.Answered.{Answered, bad_line, taken_with}
use Rattle.book.proofs.Once.{Way, long, bad, by, way, of_verdict, answered_once}

-- "Empty text is a taken, empty book."
pub empty_taken : Answered [] (taken 0 0 0) empty_book
unfolding lines_read read_from meanings lines lines_of split all_placements
empty_taken =
    rw empty_words
    (taken_with
    (record {
      short = omega arith;
      at = [];
      read = refl;
      sound = no_routes_sound;
    }))

-- a line of an M alone is ill formed
ill_refused : Answered (77 ∷ 10 ∷ []) (refused 2 1) empty_book
unfolding lines_read read_from meanings lines lines_of split on_first meaning_of line_meaning of_fields of_kind of_message refusal_of onward
ill_refused = bad_line (omega arith) refl

differ : {A : Type 0} {m s r why n : ℕ} {v w : List ℕ} → ◌≡◌ {A = Said × List ℕ} (taken m s r, v) (refused why n, w) → A
differ {m} {s} {r} {why} {n} e =
    let f : taken m s r ≡ refused why n = ap (λ (x : Said × List ℕ). x.0) e in
    absurd (let z : ◌≡◌ {A = ℕ} 0 1 = cc in omega arith)

pub refuses_all : (why n : ℕ) (w : List ℕ) → Answered [] (refused why n) w → ⊥
refuses_all why n w a = differ (answered_once empty_taken a)

pub takes_all : (m s r : ℕ) (w : List ℕ) → Answered (77 ∷ 10 ∷ []) (taken m s r) w → ⊥
takes_all m s r w a = differ (answered_once a ill_refused)

-- "its line, empty book": what every refusal leaves behind
pub left_empty : {text : List ℕ} {why n : ℕ} {w : List ℕ} → Answered text (refused why n) w → w ≡ empty_book
unfolding of_verdict
left_empty {text} {why} {n} {w} a = from (way a)
  where
    from_verdict : (b : Book) (at : List ℕ) (v : Verdict) → ◌≡◌ {A = Said × List ℕ} (refused why n, w) (of_verdict b at v) → w ≡ empty_book
    from_verdict b at (verdict.Loop i) e = ap (λ (x : Said × List ℕ). x.1) e
    from_verdict b at (verdict.Doubling i) e = ap (λ (x : Said × List ℕ). x.1) e
    from_verdict b at verdict.Sound e = differ (sym e)

    from : Way text (refused why n, w) → w ≡ empty_book
    from (long h e) = ap (λ (x : Said × List ℕ). x.1) e
    from (bad y m h r e) = ap (λ (x : Said × List ℕ). x.1) e
    from (by b at v p j e) = from_verdict b at v e

-- "Line .. counts made up: they equal counts over the lines": those of a taken text are of its M, S and R lines
pub counts_of_lines : {text : List ℕ} {m s r : ℕ} {w : List ℕ} → Answered text (taken m s r) w → LineCounts text m s r
unfolding of_verdict all_placements
counts_of_lines {text} {m} {s} {r} {w} a = from (way a)
  where
    counted_to : (b : Book) (at : List ℕ) → lines_read text ≡ passed b at
        → taken m s r ≡ taken (length b.messages) (length (all_placements b.messages)) (length b.routes) → LineCounts text m s r
    counted_to b at p e =
        let c = text_counted text p in
        let x : m ≡ length b.messages = cc in
        let y : s ≡ length (all_placements b.messages) = cc in
        let z : r ≡ length b.routes = cc in
        record { messages = omega (arith, c.messages); signals = omega (arith, c.signals); routes = omega (arith, c.routes) }

    from_verdict : (b : Book) (at : List ℕ) (v : Verdict) → lines_read text ≡ passed b at → ◌≡◌ {A = Said × List ℕ} (taken m s r, w) (of_verdict b at v) → LineCounts text m s r
    from_verdict b at (verdict.Loop i) p e = differ e
    from_verdict b at (verdict.Doubling i) p e = differ e
    from_verdict b at verdict.Sound p e = counted_to b at p (ap (λ (x : Said × List ℕ). x.0) e)

    from : Way text (taken m s r, w) → LineCounts text m s r
    from (long h e) = differ e
    from (bad y n h q e) = differ e
    from (by b at v p j e) = from_verdict b at v p.read e
