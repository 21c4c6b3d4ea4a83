-- The answer to a text, by what its lines come to and by the verdict on its routes. Assumes nothing.
use mathlib.Core.Path.{◌≡◌, sym, ap, ◌∙◌}
use Prim.Native.Nat.{ℕ, ◌≤◌, ◌<◌}
use mathlib.Core.List.{List}
use lib.ListN.{length, get_or}
use Rattle.record.specs.Limits.{text_limit}
use Rattle.record.specs.Columns.{empty_book, message_count_of, signal_count_of, route_count_of}
use Rattle.verdict.specs.Verdicts.{Judged}
use Rattle.verdict.specs.declared.Verdict.{Verdict}
use Rattle.verdict.specs.declared.Verdict.TheVariants as verdict
use Rattle.answers.specs.Numbers.{taken, refused, number}
use Rattle.books.specs.Book.{Book}
use Rattle.reading.specs.Reading.{meanings}
use Rattle.reading.specs.Taken.{froms, tos, r_lines_from}
use Rattle.reading.proofs.Counts.{text_counted}
use Rattle.tables.specs.Adding.{Holds}
use Rattle.tables.proofs.Held.{messages_held, signals_held, routes_held}
use Rattle.std.specs.Prelude.{Err}
use Rattle.answers.specs.declared.Refused.{Refused}
use Rattle.taking.specs.Taking.{PassedTo, Came}
use Rattle.book.specs.Answered.{Passes, Answered, too_long, bad_line, closed_chain, two_chains, taken_with}
use Rattle.book.specs.Judging.{JudgedBy}

pub empty_too_long : {text w : List ℕ} → w ≡ empty_book → text_limit < length text → Answered text (refused 1 0) w
empty_too_long e h = rw e (too_long h)

-- the answer by a verdict on the routes
module _ {text w : List ℕ} {v : Verdict} (by : JudgedBy text w v) where
  passes : Passes text by.passed.book by.passed.numbers
  passes = record { short = by.short; read = by.passed.read }

  -- the line of a route is the one that it was read from
  module _ (n i : ℕ) (e : n ≡ get_or (r_lines_from 1 (meanings text)) i 0) {left : List ℕ} (z : left ≡ empty_book) where
    line_at : n ≡ get_or by.passed.numbers i 0
    line_at = e ∙ ap (λ (l : List ℕ). get_or l i 0) (sym (text_counted text by.passed.read).numbers)

    pub closed : v ≡ verdict.Loop i → Answered text (refused 10 n) left
    closed q = rw (z, line_at) (closed_chain passes (rw q at by.judged))

    pub doubled : v ≡ verdict.Doubling i → Answered text (refused 11 n) left
    doubled q = let j = rw q at by.judged in rw (z, line_at) (two_chains passes j.0 j.1)

  pub sound : {m s r : ℕ} → v ≡ verdict.Sound → m ≡ message_count_of w → s ≡ signal_count_of w → r ≡ route_count_of w → Answered text (taken m s r) w
  sound q m s r =
      let p = by.passed in
      let j = rw q at by.judged in
      rw (m ∙ messages_held w p.book p.holds, s ∙ signals_held w p.book p.holds, r ∙ routes_held w p.book p.holds, p.holds.words)
      (taken_with (record { short = by.short; at = p.numbers; read = p.read; sound = record { loop_free = j.loop_free; single = j.single } }))

-- a verdict on the routes of every book that has the words is one on those of the text's book
pub judged_by : {text w : List ℕ} {v : Verdict} → length text ≤ text_limit → PassedTo text w
    → ((b : Book) → Holds w b → Judged (froms b.routes) (tos b.routes) v) → JudgedBy text w v
judged_by h p j = record { short = h; passed = p; judged = j p.book p.holds }

-- what came of the lines
pub refused_line_law : (text : List ℕ) (r : Refused) (w : List ℕ) → Came text (Err r) w → length text ≤ text_limit → Answered text (refused (number r.why) r.line) w
refused_line_law text r w c h = rw c.1 (bad_line h c.0)
