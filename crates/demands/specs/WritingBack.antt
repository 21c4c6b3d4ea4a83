-- Document 02, P3: "Reading what was written gives the same tables. Reading a taken text and writing it gives the same lines, those of M
-- and S in their order and those of R in theirs, so the length is the same." Assumes nothing: these are definitions.
use Rattle.std.specs.Prelude.{◌≡◌, ℕ, List, ◌++◌, length, take, drop}
use Rattle.record.specs.Columns.{message_count_of, signal_count_of, route_count_of}
use Rattle.parts.specs.Joined.{text_of_lines}
use Rattle.answers.specs.Numbers.{Said, taken}
use Rattle.rewriting.specs.LineKinds.{message_lines_of, route_lines_of}

-- the call refuses nothing, and a text was written to the front of the room: so many bytes of it, and the rest of the room as lent
pub record AtFront (room : List ℕ) (why n : ℕ) (after text : List ℕ) : Type 0 where
  pub not_refused : why ≡ 0
  pub count : n ≡ length text
  pub front : take n after ≡ text
  pub rest : drop n after ≡ drop n room

-- the same lines: those of M and S, and those of R, each in their order; the first before the others, and nothing else
pub record SameLines (text written : List ℕ) : Type 0 where
  pub of_messages : message_lines_of written ≡ message_lines_of text
  pub of_routes : route_lines_of written ≡ route_lines_of text
  pub in_order : written ≡ text_of_lines (message_lines_of text ++ route_lines_of text)
  pub long : length written ≡ length text

-- the same tables: what the reader answers and leaves is, word for word, the record
pub record SameTables (w : List ℕ) (said : Said) (left : List ℕ) : Type 0 where
  pub counts : said ≡ taken (message_count_of w) (signal_count_of w) (route_count_of w)
  pub words : left ≡ w
