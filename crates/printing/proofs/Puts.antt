-- Texts written one after another, a text written byte by byte, and the two kinds of numbers of a book. Assumes nothing.
use mathlib.Core.Path.{◌≡◌, refl, sym, ap, ◌∙◌, subst}
use mathlib.Core.List.{List, [], ◌∷◌, ◌++◌}
use Prim.Native.Nat.{ℕ, suc, ◌+◌, ◌≤◌, ◌<◌}
use native.Mathlib.Nat.{add-zero, add-suc, suc-add}
use native.Mathlib.Numerals.{add-one}
use native.Mathlib.Omega.{arith}
use lib.ListN.{length, drop, set, get_or, length-append, length-set}
use lib.Seq.{sets, length-sets, drop-cons}
use Rattle.numerals.specs.Written.{identifier_text, decimal_width_spec, decimal_text}
use Rattle.numerals.proofs.Identifiers.{length_identifier}
use Rattle.numerals.proofs.Decimals.{decimal_long}
use Rattle.printing.specs.Put.{Put, PutWithin}

pub sets_append : (l : List ℕ) (at : ℕ) (a b : List ℕ) → sets (sets l at a) (at + length a) b ≡ sets l at (a ++ b)
sets_append l at [] b = ap (λ (n : ℕ). sets l n b) (add-zero at)
sets_append l at (x ∷ a) b = ap (λ (n : ℕ). sets (sets (set l at x) (suc at) a) n b) (add-suc at (length a) ∙ sym (suc-add at (length a))) ∙ sets_append (set l at x) (suc at) a b

pub put_length : {old : List ℕ} {at : ℕ} {text new : List ℕ} {next : ℕ} → Put old at text new next → length new ≡ length old
put_length {old} {at} {text} p = ap length p.now_there ∙ length-sets old at text

-- one text after another is both
pub and_then : {old : List ℕ} {at : ℕ} {a mid : List ℕ} {m : ℕ} {b new : List ℕ} {next : ℕ} → Put old at a mid m → Put mid m b new next → Put old at (a ++ b) new next
and_then {old} {at} {a} {mid} {m} {b} p q =
    record {
      now_there = q.now_there ∙ ap (λ (l : List ℕ). sets l m b) p.now_there ∙ ap (λ (n : ℕ). sets (sets old at a) n b) p.now_at ∙ sets_append old at a b;
      now_at = omega (arith, p.now_at, q.now_at, length-append a b);
    }

pub put_as : {old : List ℕ} {at : ℕ} {a b new : List ℕ} {next : ℕ} → a ≡ b → Put old at a new next → Put old at b new next
put_as {old} {at} {a} {b} {new} {next} e p = subst (λ (l : List ℕ). Put old at l new next) e p

pub put_within : (most : ℕ) {old : List ℕ} {at : ℕ} {text new : List ℕ} {next : ℕ} → Put old at text new next → next ≤ at + most → PutWithin old at most text new next
put_within most p h = record { put = p; short = omega (arith, p.now_at) }

-- the two kinds of numbers of a route book
pub put_identifier_law : {old new : List ℕ} {at next : ℕ} (i : ℕ) → (next ≡ at + 8) × (new ≡ sets old at (identifier_text i)) → Put old at (identifier_text i) new next
put_identifier_law i p = record { now_there = p.1; now_at = omega (arith, p.0, length_identifier i) }

pub put_decimal_law : {old new : List ℕ} {at next : ℕ} (n : ℕ) → (next ≡ at + decimal_width_spec n) × (new ≡ sets old at (decimal_text n)) → Put old at (decimal_text n) new next
put_decimal_law n p = record { now_there = p.1; now_at = omega (arith, p.0, decimal_long n) }

-- i bytes of a text are written: writing what is left gives the final list
pub record Written (old : List ℕ) (at : ℕ) (text out : List ℕ) (i : ℕ) : Type 0 where
  pub rest : sets out (at + i) (drop i text) ≡ sets old at text
  pub within : i ≤ length text
  pub size : length out ≡ length old

pub none_written : (old : List ℕ) (at : ℕ) (text : List ℕ) → Written old at text old 0
none_written old at text = record { rest = ap (λ (n : ℕ). sets old n text) (add-zero at); within = omega arith; size = refl }

module _ {old : List ℕ} {at : ℕ} {text out : List ℕ} {i : ℕ} (w : Written old at text out i) where
  pub byte_written : i < length text → Written old at text (set out (at + i) (get_or text i 0)) (i + 1)
  byte_written h =
      record {
        rest = rw (add-one i, add-suc at i) (rw (drop-cons text i 0 h) at w.rest);
        within = omega arith;
        size = length-set out (at + i) (get_or text i 0) ∙ w.size;
      }
