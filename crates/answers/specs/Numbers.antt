-- "Refusal numbers": document 01's number for each refusal, and what each answer says. Assumes nothing: these are definitions.
use Rattle.std.specs.Prelude.{ℕ, Result, Ok, Err}
use Rattle.answers.specs.declared.Refusal.{Refusal}
use Rattle.answers.specs.declared.Refusal.TheVariants as refusal
use Rattle.answers.specs.declared.Counts.{Counts}
use Rattle.answers.specs.declared.Refused.{Refused}

abbrev pub number : Refusal → ℕ
number refusal.TooLong = 1
number refusal.IllFormed = 2
number refusal.OverLimit = 3
number refusal.BeforeAnyMessage = 4
number refusal.MessageRepeated = 5
number refusal.SignalRepeated = 6
number refusal.Misplaced = 7
number refusal.BitsMeet = 8
number refusal.Full = 9
number refusal.ClosedChain = 10
number refusal.TwoChains = 11

-- what an answer says: taken, with the counts of M, S and R lines; or refused, with the refusal's number and its line
pub data Said : Type 0 where
  taken : ℕ → ℕ → ℕ → Said
  refused : ℕ → ℕ → Said

abbrev pub said : Result Counts Refused → Said
said (Ok counts) = taken counts.messages counts.signals counts.routes
said (Err r) = refused (number r.why) r.line
