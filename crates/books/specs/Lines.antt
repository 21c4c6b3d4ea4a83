-- Why one more line is refused, by what the book holds already: the lowest of 3 to 9, and 0 where it is taken. Assumes nothing: these are definitions.
use Rattle.std.specs.Prelude.{ℕ, ◌+◌, Bool, false, cond, ◌&&◌, ◌||◌, not, List, [], ◌∷◌, eqb, ltb, leb, length}
pub use Rattle.record.specs.Limits.{message_limit, signal_limit, route_limit, bus_limit, identifier_limit, start_limit}
pub use Rattle.bits.specs.Frame.{frame_bits}
use Rattle.catalogue.specs.Find.{bits_of_spec}
use Rattle.books.specs.Book.{Placement, Message, Route, identifiers, numbers, all_placements, last_placements}
use Rattle.books.specs.Fixed.{checksum_number, checksum_start, counter_number, counter_start}

-- `n` stands in the list
unfoldable pub is_in : ℕ → List ℕ → Bool
is_in n [] = false
is_in n (m ∷ ms) = eqb n m || is_in n ms

-- refusal 3 of an `S` line: number not in the catalogue, or start over its limit
unfoldable pub unknown_or_over : Placement → Bool
unknown_or_over p = eqb (bits_of_spec p.number) 0 || leb start_limit p.start

-- refusal 7: start + bits over the 64 of a frame, or 503 or 504 at a wrong start
unfoldable pub misplaced : Placement → Bool
misplaced p =
    ltb frame_bits (p.start + bits_of_spec p.number) ||
    ((eqb p.number checksum_number && not (eqb p.start checksum_start)) ||
    (eqb p.number counter_number && not (eqb p.start counter_start)))

-- two signals of the catalogue have a frame bit in common: each starts before the other ends
unfoldable pub meets : Placement → Placement → Bool
meets p q = ltb p.start (q.start + bits_of_spec q.number) && ltb q.start (p.start + bits_of_spec p.number)

-- refusal 8: bits meet an earlier signal of the message
unfoldable pub meets_earlier : List Placement → Placement → Bool
meets_earlier [] p = false
meets_earlier (q ∷ qs) p = meets p q || meets_earlier qs p

-- an `M` line
unfoldable pub message_refusal : List Message → ℕ → ℕ
message_refusal ms i =
    cond (leb identifier_limit i) 3
    (cond (is_in i (identifiers ms)) 5
    (cond (leb message_limit (length ms)) 9
    0))

-- an `S` line that is none of 3 and 4: after the placements before it in its message, in a book of `count` signals in all
unfoldable pub after_refusal : List Placement → ℕ → Placement → ℕ
after_refusal before count p =
    cond (is_in p.number (numbers before)) 6
    (cond (misplaced p) 7
    (cond (meets_earlier before p) 8
    (cond (leb signal_limit count) 9
    0)))

-- an `S` line
unfoldable pub signal_refusal : List Message → Placement → ℕ
signal_refusal ms p =
    cond (unknown_or_over p) 3
    (cond (eqb (length ms) 0) 4
    (after_refusal (last_placements ms) (length (all_placements ms)) p))

-- an `R` line
unfoldable pub route_refusal : List Route → ℕ → ℕ → ℕ → ℕ → ℕ
route_refusal rs a i b j =
    cond ((leb bus_limit a || leb identifier_limit i) || (leb bus_limit b || leb identifier_limit j)) 3
    (cond (leb route_limit (length rs)) 9
    0)
