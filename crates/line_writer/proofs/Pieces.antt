-- What is put one after the other makes the line. Assumes nothing.
use mathlib.Core.Path.{sym}
use mathlib.Core.List.{List, [], ◌∷◌}
use Prim.Native.Nat.{ℕ, ◌%◌, ◌/◌}
use Rattle.numerals.specs.Written.{identifier_text, decimal_text}
use Rattle.line.specs.declared.Line.TheVariants.{Message}
use Rattle.record.specs.Limits.{identifier_limit}
use Rattle.books.specs.Book.{placement, route_between}
use Rattle.reading.specs.Written.{signal_line, route_line, lines_text, place_text}
use Rattle.printing.specs.Put.{Put}
use Rattle.printing.proofs.Puts.{and_then, put_as}
use Rattle.reading.proofs.LineLengths.{message_text_law, message_long, signal_text, route_text}
use Rattle.line_writer.specs.Fitting.{EveryMessageHas}
use Rattle.line_writer.specs.declared.TheConstants.{MESSAGE_LENGTH}

module _ {old a new : List ℕ} {at first next : ℕ} where
  pub message_put : (i : ℕ) {b : List ℕ} {end : ℕ} → Put old at (77 ∷ 9 ∷ []) a first → Put a first (identifier_text i) b end → Put b end (10 ∷ []) new next
      → Put old at (lines_text (Message i ∷ [])) new next
  message_put i k p e = put_as (sym (message_text_law i)) (and_then k (and_then p e))

  pub place_put : (place : ℕ) {b : List ℕ} {second : ℕ} → Put old at (decimal_text (place / identifier_limit)) a first → Put a first (9 ∷ []) b second
      → Put b second (identifier_text (place % identifier_limit)) new next → Put old at (place_text place) new next
  place_put place p t q = and_then p (and_then t q)

  module _ {b c d : List ℕ} {after second end : ℕ} where
    pub signal_put : (n s : ℕ) → Put old at (83 ∷ 9 ∷ []) a first → Put a first (decimal_text n) b after → Put b after (9 ∷ []) c second
        → Put c second (decimal_text s) d end → Put d end (10 ∷ []) new next → Put old at (lines_text (signal_line (placement n s) ∷ [])) new next
    signal_put n s k p t q e = put_as (sym (signal_text n s)) (and_then k (and_then (and_then p (and_then t q)) e))

    pub route_put : (p q : ℕ) → Put old at (82 ∷ 9 ∷ []) a first → Put a first (place_text p) b after → Put b after (9 ∷ []) c second
        → Put c second (place_text q) d end → Put d end (10 ∷ []) new next → Put old at (lines_text (route_line (route_between p q) ∷ [])) new next
    route_put p q k f t g e = put_as (sym (route_text p q)) (and_then k (and_then (and_then f (and_then t g)) e))

-- what the code takes for the length of an M line is that of every M line
pub message_length : EveryMessageHas MESSAGE_LENGTH
message_length i = sym (message_long i)
