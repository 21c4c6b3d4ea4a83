-- The pieces of a printed line make the line. Assumes nothing.
use mathlib.Core.Path.{◌≡◌}
use mathlib.Core.List.{List, [], ◌∷◌, ◌++◌, append_assoc}
use Prim.Native.Nat.{ℕ, ◌+◌, ◌≤◌, ◌<◌}
use native.Mathlib.Omega.{arith}
use lib.ListN.{length}
use borrow.Author.Tests.{lt-ltb, le-ltb}
use Rattle.parts.specs.Joined.{join, text_of_lines}
use Rattle.printing.specs.Put.{Put}
use Rattle.printing.specs.Decimal.{natural_text}
use Rattle.printing.proofs.Puts.{and_then}
use Rattle.printing.proofs.Counting.{count_few}
use Rattle.printing.proofs.Spelling.{natural_long}
use Rattle.answer_line.specs.Printed.{ok, no, taken_line, refused_line, field_room, line_room, printed}

-- a field is no longer than its room
pub field_few : {old new : List ℕ} {at n next : ℕ} → Put old at (9 ∷ natural_text n) new next → n < 4294967296 → next ≤ at + field_room
field_few {old} {new} {at} {n} p h = omega (arith, p.now_at, natural_long n, count_few n (omega arith))

module _ {old a b new : List ℕ} {word first second next : ℕ} where
  pub refused_put : (n line : ℕ) {c : List ℕ} → Put old 0 no a word → Put a word (9 ∷ natural_text n) b first → Put b first (9 ∷ natural_text line) c second → Put c second (10 ∷ []) new next
      → Put old 0 (refused_line n line) new next
  unfolding refused_line text_of_lines join
  refused_put n line p q r s = rw shape (and_then (and_then (and_then p q) r) s)
    where
      shape : (no ++ 9 ∷ (natural_text n ++ 9 ∷ natural_text line)) ++ 10 ∷ [] ≡ (((no ++ 9 ∷ natural_text n) ++ 9 ∷ natural_text line) ++ 10 ∷ [])
      shape = simp append_assoc

  pub taken_put : (m s r : ℕ) {third : ℕ} {c d : List ℕ} → Put old 0 ok a word → Put a word (9 ∷ natural_text m) b first → Put b first (9 ∷ natural_text s) c second
      → Put c second (9 ∷ natural_text r) d third → Put d third (10 ∷ []) new next → Put old 0 (taken_line m s r) new next
  unfolding taken_line text_of_lines join
  taken_put m s r p q t u v = rw shape (and_then (and_then (and_then (and_then p q) t) u) v)
    where
      shape : (ok ++ 9 ∷ (natural_text m ++ 9 ∷ (natural_text s ++ 9 ∷ natural_text r))) ++ 10 ∷ [] ≡ ((((ok ++ 9 ∷ natural_text m) ++ 9 ∷ natural_text s) ++ 9 ∷ natural_text r) ++ 10 ∷ [])
      shape = simp append_assoc

pub no_room : (out text : List ℕ) → length out < line_room → ◌≡◌ {A = ℕ × List ℕ} (0, out) (printed out text)
unfolding printed
no_room out text h = rw (lt-ltb _ _ h)

pub with_room : {out new : List ℕ} {r : ℕ} (text : List ℕ) → line_room ≤ length out → Put out 0 text new r → ◌≡◌ {A = ℕ × List ℕ} (r, new) (printed out text)
unfolding printed
with_room {out} {new} {r} text h p =
    let e : r ≡ length text = omega (arith, p.now_at) in
    rw (le-ltb _ _ h) (λ i. (e i, p.now_there i))
