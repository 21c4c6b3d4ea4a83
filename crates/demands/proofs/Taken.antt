-- From the reader's answer on: where a text is taken, the words that the reader left are those of the book of its lines. Assumes nothing.
use mathlib.Core.Path.{◌≡◌, refl, sym, subst}
use Prim.Native.Nat.{ℕ}
use mathlib.Core.List.{List}
use Rattle.answers.specs.Numbers.{Said, taken}
use Rattle.book.specs.Answered.{Answered, too_long, bad_line, closed_chain, two_chains, taken_with}
use Rattle.route_tables.specs.Tables.{LeftOf, OfTakenText}
use Rattle.route_tables.proofs.OneText.{text_messages_taken, text_routes_taken}
use Rattle.book_writer.specs.Answers.{TablesTaken}
use Rattle.demands.proofs.LineRefusals.{not_taken}

pub left : (text : List ℕ) {m s r : ℕ} {w : List ℕ} → Answered text (taken m s r) w → LeftOf text w
left text {m} {s} {r} {w} a = from (taken m s r) w refl a
  where
    from : (said : Said) (v : List ℕ) → said ≡ taken m s r → Answered text said v → LeftOf text v
    from said v e (too_long h) = not_taken (sym e)
    from said v e (bad_line h f) = not_taken (sym e)
    from said v e (closed_chain p l) = not_taken (sym e)
    from said v e (two_chains p f l) = not_taken (sym e)
    from said v e (taken_with {b = b} t) = record { book = b; taken = t; words = refl }

-- so the record is, word for word, that of a taken text
pub left_of_text : (text : List ℕ) {m s r : ℕ} {w : List ℕ} → Answered text (taken m s r) w → OfTakenText w
left_of_text text a = record { text = text; left = left text a }

-- and all its tables pass
pub left_tables : (text w : List ℕ) → LeftOf text w → TablesTaken w
left_tables text w l =
    subst TablesTaken (sym l.words) (record { messages = text_messages_taken text l.book l.taken; routes = text_routes_taken text l.book l.taken })
