-- A line that is not refused is the text of what it says. So a taken text is of bytes, whatever numbers a list may hold: letters, digits,
-- tabs and newlines, and can be written in a file. Assumes nothing.
use mathlib.Core.Path.{◌≡◌, refl, subst, sym}
use mathlib.Core.Bool.{Bool, true, false, cond}
use mathlib.Core.List.{List, [], ◌∷◌, ◌++◌, map}
use mathlib.Core.Logic.{◌⊎◌, inl, inr}
use Prim.Native.Nat.{ℕ, zero, suc, ◌+◌, ◌/◌, ◌%◌, ◌^◌, ◌≤◌, ◌<◌}
use native.Mathlib.Nat.{one-le-pow, pow-succ', div-lt_iff_lt-mul, mod-lt}
use native.Mathlib.Omega.{arith}
use lib.Dec.{eqb, ltb}
use lib.ListN.{length, get_or}
use borrow.Author.Tests.{eqb-true}
use Rattle.bits.specs.Frame.{Bytes}
use Rattle.numerals.specs.Written.{digit_byte_spec, digits_of_spec, hexadecimal_limit, identifier_text, decimal_limit, decimal_text}
use Rattle.numerals.proofs.Decimals.{some_width}
use Rattle.parts.specs.Parts.{tab, newline, on_first, split, lines_of, lines}
use Rattle.parts.specs.Joined.{join}
use Rattle.line.specs.declared.Line.{Line}
use Rattle.line.specs.declared.Line.TheVariants as line
use Rattle.line.specs.Meaning.{line_meaning, meaning_of}
use Rattle.line.specs.Written.{fields_of, line_text, Writable, Canonical}
use Rattle.line.proofs.Canonical.{canonical}
use Rattle.books.specs.Book.{Book, no_book}
use Rattle.reading.specs.Reading.{passed, refusal_of, with_line, numbered_with, read_from, meanings, lines_read}
use Rattle.reading.specs.Taken.{TakenWith}
use Rattle.reading.proofs.Passing.{went}

-- entries that are bytes, one after the other, and parts of them
data OfBytes : List ℕ → Type 0 where
  no_byte : OfBytes []
  byte : {b : ℕ} {text : List ℕ} → b < 256 → OfBytes text → OfBytes (b ∷ text)

each_small : {l : List ℕ} → OfBytes l → (k : ℕ) → get_or l k 0 < 256
each_small no_byte k = omega arith
each_small (byte h f) zero = h
each_small (byte h f) (suc k) = each_small f k

data AllBytes : List (List ℕ) → Type 0 where
  no_part : AllBytes []
  part : {p : List ℕ} {ps : List (List ℕ)} → OfBytes p → AllBytes ps → AllBytes (p ∷ ps)

bytes_append : {l m : List ℕ} → OfBytes l → OfBytes m → OfBytes (l ++ m)
bytes_append no_byte g = g
bytes_append (byte h f) g = byte h (bytes_append f g)

-- digits
digit_small : (d : ℕ) → d < 16 → digit_byte_spec d < 256
unfolding digit_byte_spec
digit_small d h = go (ltb d 10)
  where
    go : (q : Bool) → cond q (48 + d) (55 + d) < 256
    go true = omega arith
    go false = omega arith

digits_bytes : (base : ℕ) → 0 < base → base ≤ 16 → (k n : ℕ) → n < base ^ k → OfBytes (digits_of_spec base k n)
unfolding digits_of_spec
digits_bytes base z s zero n h = no_byte
digits_bytes base z s (suc k) n h =
    let p : 0 < base ^ k = one-le-pow k base z in
    let d : n / base ^ k < base = (div-lt_iff_lt-mul p).1 (rw pow-succ' at h) in
    byte (digit_small (n / base ^ k) (omega arith)) (digits_bytes base z s k (n % base ^ k) (mod-lt n p))

identifier_bytes : (n : ℕ) → n < hexadecimal_limit → OfBytes (identifier_text n)
unfolding identifier_text
identifier_bytes n h = digits_bytes 16 (omega arith) (omega arith) 8 n h

decimal_bytes : (n : ℕ) → n < decimal_limit → OfBytes (decimal_text n)
unfolding decimal_text
decimal_bytes n h =
    let w = some_width n h in
    subst (λ (k : ℕ). OfBytes (digits_of_spec 10 k n)) (sym w.wide.width) (digits_bytes 10 (omega arith) (omega arith) (suc w.k) n w.wide.below)

-- lines
join_bytes : (s : ℕ) → s < 256 → {ps : List (List ℕ)} → AllBytes ps → OfBytes (join s ps)
unfolding join
join_bytes s h no_part = no_byte
join_bytes s h (part f no_part) = f
join_bytes s h (part f (part g more)) = bytes_append f (byte h (join_bytes s h (part g more)))

letter_byte : (b : ℕ) → b < 256 → OfBytes (b ∷ [])
letter_byte b h = byte h no_byte

fields_bytes : (l : Line) → Writable l → AllBytes (fields_of l)
unfolding fields_of
fields_bytes (line.Message i) w = part (letter_byte 77 (omega arith)) (part (identifier_bytes i w) no_part)
fields_bytes (line.Signal n s) (x, y) = part (letter_byte 83 (omega arith)) (part (decimal_bytes n x) (part (decimal_bytes s y) no_part))
fields_bytes (line.Route a i b j) ((x, y), (z, w)) =
    part (letter_byte 82 (omega arith))
    (part (decimal_bytes a x) (part (identifier_bytes i y) (part (decimal_bytes b z) (part (identifier_bytes j w) no_part))))
fields_bytes line.IllFormed w = absurd w

line_bytes_law : (l : Line) → Writable l → OfBytes (line_text l)
unfolding line_text
line_bytes_law l w = join_bytes tab (omega arith) (fields_bytes l w)

-- a line that is ill formed is refused
pub ill_passes : {A : Type 0} (b : Book) → refusal_of b line.IllFormed ≡ 0 → A
unfolding refusal_of
ill_passes b e = let z : ◌≡◌ {A = ℕ} 2 0 = e in absurd (omega arith)

-- so one that is not refused is the text of what it says
pub says_itself : (b : Book) (l : List ℕ) → refusal_of b (line_meaning l) ≡ 0 → Canonical l (line_meaning l)
says_itself b l e = by (canonical l)
  where
    by : (line_meaning l ≡ line.IllFormed) ⊎ Canonical l (line_meaning l) → Canonical l (line_meaning l)
    by (inl ill) = ill_passes b (subst (λ (m : Line). refusal_of b m ≡ 0) ill e)
    by (inr c) = c

well_formed : (b : Book) (l : List ℕ) → refusal_of b (line_meaning l) ≡ 0 → OfBytes l
well_formed b l e = let c = says_itself b l e in subst OfBytes (sym c.text) (line_bytes_law (line_meaning l) c.writable)

-- parts between newlines, all of them lines that pass
parts_bytes : (n : ℕ) (b : Book) (at : List ℕ) (ps : List (List ℕ)) {c : Book} {to : List ℕ} → read_from n b at (map meaning_of (lines_of ps)) ≡ passed c to → AllBytes ps
unfolding read_from lines_of meaning_of
parts_bytes n b at [] e = no_part
parts_bytes n b at ([] ∷ []) e = part no_byte no_part
parts_bytes n b at ((x ∷ l) ∷ []) e =
    let w = went (refusal_of b line.IllFormed) n (read_from (suc n) (with_line b line.IllFormed) (numbered_with at n line.IllFormed) []) e in
    ill_passes b w.taken
parts_bytes n b at (l ∷ p ∷ ps) e =
    let w = went (refusal_of b (line_meaning l)) n (read_from (suc n) (with_line b (line_meaning l)) (numbered_with at n (line_meaning l)) (map meaning_of (lines_of (p ∷ ps)))) e in
    part (well_formed b l w.taken) (parts_bytes (suc n) (with_line b (line_meaning l)) (numbered_with at n (line_meaning l)) (p ∷ ps) w.after)

-- what is split into parts of bytes is of bytes
first_bytes : (b : ℕ) (ps : List (List ℕ)) → AllBytes (on_first b ps) → (b < 256) × AllBytes ps
unfolding on_first
first_bytes b [] (part (byte h f) more) = (h, no_part)
first_bytes b (p ∷ ps) (part (byte h f) more) = (h, part f more)

split_bytes : (s : ℕ) → s < 256 → (l : List ℕ) → AllBytes (split s l) → OfBytes l
unfolding split
split_bytes s h [] a = no_byte
split_bytes s h (b ∷ t) a = go (eqb b s) refl a (split_bytes s h t)
  where
    go : (q : Bool) → eqb b s ≡ q → AllBytes (cond q ([] ∷ split s t) (on_first b (split s t))) → (AllBytes (split s t) → OfBytes t) → OfBytes (b ∷ t)
    go true e (part f more) rest = byte (subst (λ (x : ℕ). x < 256) (sym (eqb-true _ _ e)) h) (rest more)
    go false e a rest = let f = first_bytes b (split s t) a in byte f.0 (rest f.1)

pub taken_bytes : {text : List ℕ} {b : Book} → TakenWith text b → Bytes (length text) text
unfolding lines_read meanings lines
taken_bytes {text} t = record {
  many = refl;
  small = each_small (split_bytes newline (omega arith) text (parts_bytes 1 no_book [] (split newline text) t.read));
}
