-- A line is refused with one of 2 to 9, so that 10 and 11 are no line's; and refusals with different numbers are different answers.
-- Assumes nothing.
use mathlib.Core.Path.{◌≡◌}
use Prim.Native.Nat.{ℕ, ◌≤◌}
use native.Mathlib.Omega.{arith}
use mathlib.Core.List.{List}
use Rattle.answers.specs.Numbers.{taken, refused}
use Rattle.reading.specs.Reading.{lines_read}
use Rattle.reading.specs.Reading as lines
use Rattle.reading.proofs.Refused.{text_refused}

-- one of 2 to 9
pub record OfALine (why : ℕ) : Type 0 where
  pub least : 2 ≤ why
  pub most : why ≤ 9

low : (why : ℕ) → 2 ≤ why → why ≤ 9 → OfALine why
low why h l = record { least = h; most = l }

pub line_low : (text : List ℕ) (why n : ℕ) → lines_read text ≡ lines.refused why n → OfALine why
line_low =
    text_refused OfALine (low 2 (omega arith) (omega arith)) (low 3 (omega arith) (omega arith)) (low 4 (omega arith) (omega arith)) (low 5 (omega arith) (omega arith))
    (low 6 (omega arith) (omega arith)) (low 7 (omega arith) (omega arith)) (low 8 (omega arith) (omega arith)) (low 9 (omega arith) (omega arith))

pub apart : {A : Type 0} {a b m n : ℕ} → (a ≡ b → ⊥) → refused a m ≡ refused b n → A
apart {a = a} {b = b} ne e = let z : a ≡ b = cc in absurd (ne z)

pub not_taken : {A : Type 0} {a n m s r : ℕ} → taken m s r ≡ refused a n → A
not_taken e = let z : ◌≡◌ {A = ℕ} 0 1 = cc in absurd (omega arith)
