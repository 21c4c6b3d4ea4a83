-- `messages::reading::read_signals` meets its contract: at each turn, writing what is left gives the final lists.
-- Assumes nothing.
use mathlib.Core.List.{List}
use Prim.Native.Nat.{ℕ}
use lib.IntN.{ℤ}
use Rattle.messages.specs.Signals.{AllFit, raw_in, code_in, reading_in}
use Rattle.messages.proofs.Steps.{rest, Writing}
use Rattle.messages.proofs.reading.read_signals.Given as goal

pub record Inv (word : ℕ) (numbers starts : List ℕ) (raws₀ classes₀ : List ℕ) (thousandths₀ : List ℤ) (raws classes : List ℕ) (thousandths : List ℤ) (i : ℕ) : Type 0 where
  pub fit : AllFit (rest numbers starts i)
  pub in-raws : Writing (raw_in word) raws₀ numbers starts raws i
  pub in-classes : Writing (code_in word) classes₀ numbers starts classes i
  pub in_thousandths : Writing (reading_in word) thousandths₀ numbers starts thousandths i

abbrev pub invariant-loop-at : goal.invariant-loop-at
invariant-loop-at l = Inv l.word l.numbers l.starts l.initial.raws l.initial.classes l.initial.thousandths l.raws l.classes l.thousandths l.at
