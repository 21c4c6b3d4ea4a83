-- Every refusal of a line is one that has a number. Assumes nothing.
use mathlib.Core.Path.{◌≡◌, refl}
use mathlib.Core.List.{List}
use Prim.Native.Nat.{ℕ}
use Rattle.answers.specs.declared.Refusal.{Refusal}
use Rattle.answers.specs.declared.Refusal.TheVariants as refusal
use Rattle.answers.specs.Numbers.{number}
use Rattle.reading.specs.Reading.{lines_read}
use Rattle.reading.specs.Reading as lines
use Rattle.reading.proofs.Refused.{text_refused}

-- a number is that of a refusal
pub record Named (n : ℕ) : Type 0 where
  pub refusal : Refusal
  pub is : number refusal ≡ n

named : (r : Refusal) → Named (number r)
named r = record { refusal = r; is = refl }

pub text_named : (text : List ℕ) (why n : ℕ) → lines_read text ≡ lines.refused why n → Named why
text_named =
    text_refused Named (named refusal.IllFormed) (named refusal.OverLimit) (named refusal.BeforeAnyMessage) (named refusal.MessageRepeated) (named refusal.SignalRepeated)
    (named refusal.Misplaced) (named refusal.BitsMeet) (named refusal.Full)
