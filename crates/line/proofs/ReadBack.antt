-- The text of a line is read as that line. Assumes nothing.
use mathlib.Core.Path.{◌≡◌}
use mathlib.Core.List.{[], ◌∷◌}
use Prim.Native.Nat.{ℕ, ◌≤◌, ◌<◌}
use native.Mathlib.Omega.{arith}
use Rattle.numerals.proofs.Identifiers.{identifier_read}
use Rattle.numerals.proofs.Decimals.{decimal_read}
use Rattle.parts.specs.Parts.{fields}
use Rattle.parts.specs.Joined.{Lacks, none, more, AllLack, no_part, part}
use Rattle.parts.proofs.Joins.{split_join, free_join}
use Rattle.line.specs.declared.Line.{Line}
use Rattle.line.specs.declared.Line.TheVariants.{Message, Signal, Route, IllFormed}
use Rattle.line.specs.Meaning.{of_message, of_signal, of_route, of_kind, of_fields, line_meaning}
use Rattle.line.specs.Written.{fields_of, line_text, Writable}
use Rattle.fields.proofs.Tabless.{identifier_free, decimal_free}

-- no field of a line has a byte below the digits
kind_free : (s b : ℕ) → s < 48 → 48 ≤ b → Lacks s (b ∷ [])
kind_free s b h l = let other : b ≡ s → ⊥ = λ e. omega arith in more other none

fields_free : (s : ℕ) → s < 48 → (l : Line) → AllLack s (fields_of l)
unfolding fields_of
fields_free s h (Message i) = part (kind_free s 77 h (omega arith)) (part (identifier_free s i h) no_part)
fields_free s h (Signal n t) =
    part (kind_free s 83 h (omega arith)) (part (decimal_free s n h) (part (decimal_free s t h) no_part))
fields_free s h (Route a i b j) =
    part (kind_free s 82 h (omega arith))
    (part (decimal_free s a h) (part (identifier_free s i h) (part (decimal_free s b h) (part (identifier_free s j h) no_part))))
fields_free s h IllFormed = no_part

-- so a line's text has no newline, and its tabs part its fields
pub text_free : (l : Line) → Lacks 10 (line_text l)
unfolding line_text
text_free l = free_join 10 9 (λ e. omega arith) (fields_of l) (fields_free 10 (omega arith) l)

fields_back : (l : Line) → Writable l → fields (line_text l) ≡ fields_of l
unfolding line_text fields_of
fields_back (Message i) w = split_join 9 (77 ∷ []) _ (fields_free 9 (omega arith) (Message i))
fields_back (Signal n s) w = split_join 9 (83 ∷ []) _ (fields_free 9 (omega arith) (Signal n s))
fields_back (Route a i b j) w = split_join 9 (82 ∷ []) _ (fields_free 9 (omega arith) (Route a i b j))
fields_back IllFormed w = absurd w

-- the meaning of a line's fields
fields_say : (l : Line) → Writable l → of_fields (fields_of l) ≡ l
unfolding fields_of of_fields of_kind of_message of_signal of_route
fields_say (Message i) w = rw (identifier_read i w)
fields_say (Signal n s) w = rw (decimal_read n w.0, decimal_read s w.1)
fields_say (Route a i b j) w =
    rw (decimal_read a w.0.0, identifier_read i w.0.1, decimal_read b w.1.0, identifier_read j w.1.1)
fields_say IllFormed w = absurd w

pub read_back : (l : Line) → Writable l → line_meaning (line_text l) ≡ l
unfolding line_meaning
read_back l w = rw (fields_back l w) (fields_say l w)
