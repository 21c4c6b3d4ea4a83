-- Texts of books: a book that lines build has a text, and reading that text gives the book. Assumes nothing.
use mathlib.Core.Path.{◌≡◌, refl, sym, ap, ◌∙◌, subst}
use Prim.Native.Nat.{ℕ, ◌+◌, ◌≤◌}
use native.Mathlib.Omega.{arith}
use mathlib.Core.List.{List, [], ◌∷◌, ◌++◌, map}
use lib.ListN.{length}
use lib.Dec.{leb, eqb}
use borrow.Author.Tests.{leb-false, eqb-false}
use Rattle.parts.specs.Parts.{ended, newline}
use Rattle.parts.specs.Joined.{text_of_lines, AllLack, no_part, part}
use Rattle.parts.proofs.LineEnds.{lines_written}
use Rattle.line.specs.Meaning.{meaning_of}
use Rattle.line.specs.Written.{line_text, Writable}
use Rattle.line.proofs.ReadBack.{text_free, read_back}
use Rattle.line.specs.declared.Line.{Line}
use Rattle.line.specs.declared.Line.TheVariants as line
use Rattle.record.specs.Limits.{identifier_limit}
use Rattle.record.specs.Place.{key_place}
use Rattle.catalogue.specs.Find.{bits_of_spec}
use Rattle.books.proofs.Known.{known_small}
use Rattle.books.specs.Book.{Book, Message, Placement, Route, no_book}
use Rattle.books.specs.Lines.{message_refusal, signal_refusal, unknown_or_over, route_limit, start_limit}
use Rattle.books.specs.Built.{Built, none, message, signal}
use Rattle.books.proofs.Tests.{not_refused, both_false}
use Rattle.reading.specs.Reading.{passed, read_from, meanings, lines_read}
use Rattle.reading.specs.Written.{signal_line, route_line, message_lines, book_lines, book_text, BetweenPlaces, no_route, route, count_up}
use Rattle.reading.proofs.Writes.{lines_message, lines_signal, book_read}

-- lines that all have a text
pub data AllWritable : List Line → Type 0 where
  nothing : AllWritable []
  also : {l : Line} {ls : List Line} → Writable l → AllWritable ls → AllWritable (l ∷ ls)

all_append : {ls ms : List Line} → AllWritable ls → AllWritable ms → AllWritable (ls ++ ms)
all_append nothing b = b
all_append (also w a) b = also w (all_append a b)

pub texts_free : (ls : List Line) → AllLack newline (map line_text ls)
texts_free [] = no_part
texts_free (l ∷ ls) = part (text_free l) (texts_free ls)

means : {ls : List Line} → AllWritable ls → map meaning_of (map ended (map line_text ls)) ≡ ls
unfolding meaning_of
means nothing = refl
means (also {l} {ls} w a) = let e = read_back l w in let f = means a in cc

-- lines, written and read back
meanings_written : (ls : List Line) → AllWritable ls → meanings (text_of_lines (map line_text ls)) ≡ ls
unfolding meanings
meanings_written ls a = ap (map meaning_of) (lines_written (map line_text ls) (texts_free ls)) ∙ means a

-- the lines of a book have texts
message_writable : (ms : List Message) (i : ℕ) → message_refusal ms i ≡ 0 → Writable (line.Message i)
unfolding message_refusal
message_writable ms i e = let a = leb-false identifier_limit i (not_refused (leb identifier_limit i) 2 _ e).0 in omega arith

signal_writable : (ms : List Message) (p : Placement) → signal_refusal ms p ≡ 0 → Writable (signal_line p)
unfolding signal_refusal unknown_or_over
signal_writable ms p e =
    let a = both_false (eqb (bits_of_spec p.number) 0) (leb start_limit p.start) (not_refused (unknown_or_over p) 2 _ e).0 in
    let b = leb-false start_limit p.start a.1 in
    (omega (arith, known_small p.number (eqb-false (bits_of_spec p.number) 0 a.0)), omega arith)

pub messages_writable : {ms : List Message} → Built ms → AllWritable (message_lines ms)
unfolding message_lines
messages_writable none = nothing
messages_writable (message {ms} i b e) = subst AllWritable (sym (lines_message ms i)) (all_append (messages_writable b) (also (message_writable ms i e) nothing))
messages_writable (signal {ms} p b e) = subst AllWritable (sym (lines_signal ms p e)) (all_append (messages_writable b) (also (signal_writable ms p e) nothing))

routes_writable : {rs : List Route} → BetweenPlaces rs → AllWritable (map route_line rs)
routes_writable no_route = nothing
routes_writable (route {r} f t p) =
    let a = key_place r.from f in
    let b = key_place r.to t in
    also {l = route_line r} ((omega arith, omega arith), (omega arith, omega arith)) (routes_writable p)

lines_writable : (b : Book) → Built b.messages → BetweenPlaces b.routes → AllWritable (book_lines b)
unfolding book_lines
lines_writable b h p = all_append (messages_writable h) (routes_writable p)

-- reading the text of a book gives that book
pub text_read : (b : Book) → Built b.messages → BetweenPlaces b.routes → length b.routes ≤ route_limit
    → lines_read (book_text b) ≡ passed b (count_up (1 + length (message_lines b.messages)) (length b.routes))
unfolding lines_read book_text
text_read b h p l = ap (read_from 1 no_book []) (meanings_written (book_lines b) (lines_writable b h p)) ∙ book_read b h p l
