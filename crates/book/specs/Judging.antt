-- Working definition: what the way from a verdict to an answer asks. Assumes nothing.
use Rattle.std.specs.Prelude.{ℕ, ◌≤◌, List, length}
use Rattle.record.specs.Limits.{text_limit}
use Rattle.reading.specs.Taken.{froms, tos}
use Rattle.taking.specs.Taking.{PassedTo}
use Rattle.verdict.specs.declared.Verdict.{Verdict}
use Rattle.verdict.specs.Verdicts.{Judged}

-- the text is not too long, its lines pass, the words are those of the book that they give, and the verdict is that on its routes
pub record JudgedBy (text words : List ℕ) (v : Verdict) : Type 0 where
  pub short : length text ≤ text_limit
  pub passed : PassedTo text words
  pub judged : Judged (froms passed.book.routes) (tos passed.book.routes) v
