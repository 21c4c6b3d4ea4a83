-- The loop over the lines: the answer for the rest, after the book so far, is the answer for the whole. Assumes nothing.
use mathlib.Core.Path.{◌≡◌, refl, sym, ap, ◌∙◌, subst}
use Prim.Native.Nat.{ℕ, suc, ◌+◌, ◌≤◌, ◌<◌}
use native.Mathlib.Numerals.{add-one}
use native.Mathlib.Omega.{arith}
use mathlib.Core.List.{List, [], ◌∷◌, map}
use lib.ListN.{length, drop}
use Rattle.record.specs.Columns.{empty_book}
use Rattle.answers.specs.declared.Refusal.{Refusal}
use Rattle.answers.specs.Numbers.{number}
use Rattle.parts.specs.Parts.{lines}
use Rattle.parts.proofs.LineEnds.{lines_none}
use Rattle.line.specs.declared.Line.{Line}
use Rattle.line.specs.declared.ReadLine.{ReadLine}
use Rattle.line.specs.Meaning.{meaning_of}
use Rattle.line.specs.LineAt.{line_at, PassesLine}
use Rattle.line.proofs.Firsts.{passes_line}
use Rattle.books.specs.Book.{Book, no_book, last_placements, all_placements}
use Rattle.books.specs.Words.{column, ends_after, message_columns, route_columns, words_of}
use Rattle.reading.specs.Reading.{Outcome, refused, onward, refusal_of, with_line, numbered_with, read_from, meanings, lines_read}
use Rattle.placing.specs.declared.Filled.{Filled}
use Rattle.placing.proofs.Filling.{fills_none}
use Rattle.tables.specs.Adding.{HoldsFilled, unless}
use Rattle.tables.proofs.Room.{within_none}
use Rattle.std.specs.Prelude.{Result, Ok, Err}
use Rattle.taking.specs.Taking.{step_number, FillsThen, Took, Empty, PassedTo}
use Rattle.taking.proofs.Steps.{stops, within_line}

-- what the lines from a place on say, by the line that is read there
module _ (text : List ℕ) (at : ℕ) (h : at < length text) (r : ReadLine) (e : r ≡ line_at text at) where
  pub read : PassesLine text at r
  read = rw e (passes_line text at h)

  pub says : meanings (drop at text) ≡ r.line ∷ meanings (drop r.next text)
  unfolding meanings
  says = ap (map meaning_of) read.parted ∙ ap (λ (l : Line). l ∷ map meaning_of (lines (drop r.next text))) (sym read.says)

-- at the text's end there are none
pub no_more : (text : List ℕ) (at : ℕ) → length text ≤ at → meanings (drop at text) ≡ []
unfolding meanings
no_more text at h = ap (map meaning_of) (lines_none text at h)

-- `at` bytes of the text are read, line n is next, the words are those of the book so far, and so much is filled by its last message's signals
pub record Going (text : List ℕ) (at n : ℕ) (filled : Filled) (w : List ℕ) : Type 0 where
  pub book : Book
  pub numbers : List ℕ
  pub answer : read_from n book numbers (meanings (drop at text)) ≡ lines_read text
  pub kept : HoldsFilled w filled book
  pub within : at ≤ length text
  pub numbered : n ≤ at + 1

-- the empty book has the words of a book without lines
pub empty_words : empty_book ≡ words_of no_book
unfolding empty_book words_of message_columns route_columns column all_placements ends_after
empty_words = refl

pub start : (text w : List ℕ) → Empty w → (f : Filled) → (f.bits ≡ 0) × (f.marks ≡ 0) → Going text 0 1 f w
unfolding lines_read last_placements
start text w e f z =
    record {
      book = no_book;
      numbers = [];
      answer = refl;
      kept = record { holds = record { words = e ∙ empty_words; within = within_none }; fills = fills_none f z.0 z.1 };
      within = omega arith;
      numbered = omega arith;
    }

module _ {text : List ℕ} {at n : ℕ} {filled : Filled} {w : List ℕ} (g : Going text at n filled w) where
  pub all_taken : length text ≤ at → PassedTo text w
  unfolding read_from
  all_taken h = record { book = g.book; numbers = g.numbers; read = sym (rw (no_more text at h) at g.answer); holds = g.kept.holds }

  module _ (h : at < length text) (r : ReadLine) (e : r ≡ line_at text at) (s : Result Filled Refusal) {w' : List ℕ} (t : Took g.book r.line s w') where
    onto : Outcome
    onto = read_from (suc n) (with_line g.book r.line) (numbered_with g.numbers n r.line) (meanings (drop r.next text))

    one_more : onward (refusal_of g.book r.line) n onto ≡ lines_read text
    unfolding read_from onto
    one_more = rw (says text at h r e) at g.answer

    pub refused_here : (why : Refusal) → s ≡ Err why → lines_read text ≡ refused (number why) n
    refused_here why q =
        let z : refusal_of g.book r.line ≡ number why = sym t.answer ∙ ap step_number q in
        sym one_more ∙ ap (λ (x : ℕ). onward x n onto) z ∙ stops why n onto

    pub goes_on : (more : Filled) → s ≡ Ok more → Going text r.next (n + 1) more w'
    unfolding onward unless onto
    goes_on more q =
        let taken : refusal_of g.book r.line ≡ 0 = sym t.answer ∙ ap step_number q in
        record {
          book = with_line g.book r.line;
          numbers = numbered_with g.numbers n r.line;
          answer = rw (add-one n) (rw taken at one_more);
          kept = record {
            holds = record { words = t.words ∙ rw taken; within = within_line g.book r.line g.kept.holds.within taken };
            fills = subst (FillsThen (last_placements (with_line g.book r.line).messages)) q t.fills;
          };
          within = (read text at h r e).within;
          numbered = omega (arith, g.numbered, (read text at h r e).further);
        }
