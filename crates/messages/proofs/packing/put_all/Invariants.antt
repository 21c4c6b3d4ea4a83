-- `messages::packing::put_all` meets its contract: at each turn, putting what is left gives the final word, or the refusal.
-- Assumes nothing.
use Rattle.std.specs.Prelude.{Ok}
use mathlib.Core.Path.{◌≡◌}
use mathlib.Core.List.{List}
use Prim.Native.Nat.{ℕ}
use lib.ListN.{drop}
use Rattle.books.specs.Words.{side_by_side}
use Rattle.framing.specs.Putting.{all_ones}
use Rattle.messages.specs.Signals.{AllFit}
use Rattle.messages.specs.Put.{put_all}
use Rattle.messages.proofs.Steps.{rest}
use Rattle.messages.proofs.packing.put_all.Given as goal

pub record Inv (numbers starts values : List ℕ) (word i : ℕ) : Type 0 where
  pub fit : AllFit (rest numbers starts i)
  pub puts : put_all (Ok word) (rest numbers starts i) (drop i values) ≡ put_all (Ok all_ones) (side_by_side numbers starts) values

abbrev pub invariant-loop-at : goal.invariant-loop-at
invariant-loop-at l = Inv l.numbers l.starts l.values l.word l.at
