-- The lines of a book, piece by piece, and how long they are. Assumes nothing.
use mathlib.Core.Path.{◌≡◌, refl, sym, ap, ◌∙◌}
use Prim.Native.Nat.{ℕ, ◌+◌, ◌≤◌, ◌<◌, ◌/◌, ◌%◌}
use native.Mathlib.Omega.{arith}
use mathlib.Core.List.{List, [], ◌∷◌, ◌++◌, map, append_assoc, map-append}
use lib.ListN.{length, length-append}
use borrow.Author.Tests.{lt-ltb}
use Rattle.numerals.specs.Written.{identifier_text, decimal_width_spec, decimal_text}
use Rattle.numerals.proofs.Identifiers.{length_identifier}
use Rattle.numerals.proofs.Decimals.{decimal_long, width_few}
use Rattle.parts.specs.Joined.{join, text_of_lines}
use Rattle.parts.proofs.Joins.{text_append}
use Rattle.line.specs.declared.Line.{Line}
use Rattle.line.specs.declared.Line.TheVariants.{Message}
use Rattle.line.specs.Written.{line_text, fields_of}
use Rattle.record.specs.Limits.{identifier_limit}
use Rattle.record.specs.Place.{place_limit, key_place}
use Rattle.books.specs.Book.{placement, route_between}
use Rattle.reading.specs.Written.{signal_line, route_line, lines_text, place_text}

-- ---- the lines' texts, piece by piece
pub message_text_law : (i : ℕ) → lines_text (Message i ∷ []) ≡ 77 ∷ 9 ∷ (identifier_text i ++ 10 ∷ [])
unfolding text_of_lines line_text fields_of join
message_text_law i = refl

pub signal_text : (n s : ℕ) → lines_text (signal_line (placement n s) ∷ []) ≡ 83 ∷ 9 ∷ ((decimal_text n ++ 9 ∷ decimal_text s) ++ 10 ∷ [])
unfolding text_of_lines line_text fields_of join
signal_text n s = refl

pub route_text : (p q : ℕ) → lines_text (route_line (route_between p q) ∷ []) ≡ 82 ∷ 9 ∷ ((place_text p ++ 9 ∷ place_text q) ++ 10 ∷ [])
unfolding text_of_lines line_text fields_of join
route_text p q = ap (λ (l : List ℕ). 82 ∷ 9 ∷ (l ++ 10 ∷ [])) (sym (append_assoc (decimal_text (p / identifier_limit)) (9 ∷ identifier_text (p % identifier_limit)) (9 ∷ place_text q)))

-- ---- and how long they are
pub message_long : (i : ℕ) → length (lines_text (Message i ∷ [])) ≡ 11
message_long i = omega (arith, ap length (message_text_law i), length-append (identifier_text i) (10 ∷ []), length_identifier i)

pub signal_long : (n s : ℕ) → length (lines_text (signal_line (placement n s) ∷ [])) ≡ 4 + decimal_width_spec n + decimal_width_spec s
signal_long n s =
    omega (
      arith,
      ap length (signal_text n s),
      length-append (decimal_text n ++ 9 ∷ decimal_text s) (10 ∷ []),
      length-append (decimal_text n) (9 ∷ decimal_text s),
      decimal_long n,
      decimal_long s,
    )

-- a number below ten has one digit, and the bus of a place is one
one_digit : (n : ℕ) → n < 10 → decimal_width_spec n ≡ 1
unfolding decimal_width_spec
one_digit n h = simp (lt-ltb n 10 h)

pub bus_digit : (p : ℕ) → p < place_limit → decimal_width_spec (p / identifier_limit) ≡ 1
bus_digit p h = one_digit (p / identifier_limit) (omega (arith, (key_place p h).0))

place_bytes : (p : ℕ) → length (place_text p) ≡ decimal_width_spec (p / identifier_limit) + 9
place_bytes p =
    omega (arith, length-append (decimal_text (p / identifier_limit)) (9 ∷ identifier_text (p % identifier_limit)), decimal_long (p / identifier_limit), length_identifier (p % identifier_limit))

pub place_long : (p : ℕ) → p < place_limit → length (place_text p) ≡ 10
place_long p h = omega (arith, place_bytes p, bus_digit p h)

-- whatever numbers the places are
pub route_short : (p q : ℕ) → length (lines_text (route_line (route_between p q) ∷ [])) ≤ 32
route_short p q =
    omega (
      arith,
      ap length (route_text p q),
      length-append (place_text p ++ 9 ∷ place_text q) (10 ∷ []),
      length-append (place_text p) (9 ∷ place_text q),
      place_bytes p,
      place_bytes q,
      width_few (p / identifier_limit),
      width_few (q / identifier_limit),
    )

pub route_long : (p q : ℕ) → p < place_limit → q < place_limit → length (lines_text (route_line (route_between p q) ∷ [])) ≡ 24
route_long p q h k =
    omega (
      arith,
      ap length (route_text p q),
      length-append (place_text p ++ 9 ∷ place_text q) (10 ∷ []),
      length-append (place_text p) (9 ∷ place_text q),
      place_long p h,
      place_long q k,
    )

-- ---- lines after lines
pub lines_text_append : (ls ms : List Line) → lines_text (ls ++ ms) ≡ lines_text ls ++ lines_text ms
lines_text_append ls ms = ap text_of_lines (map-append line_text ls ms) ∙ text_append (map line_text ls) (map line_text ms)

pub both_long : (ls ms : List Line) → length (lines_text (ls ++ ms)) ≡ length (lines_text ls) + length (lines_text ms)
both_long ls ms = ap length (lines_text_append ls ms) ∙ length-append (lines_text ls) (lines_text ms)
