-- What writing a text into a lent list at a place leaves behind. Assumes nothing.
use Rattle.std.specs.Prelude.{◌≡◌, List, ℕ, ◌+◌, ◌≤◌, length}
use Rattle.std.proofs.lemmas.List.Edits.{sets}

-- the text stands at the place, every other byte is as it was, and next is the place after it
pub record Put (old : List ℕ) (at : ℕ) (text new : List ℕ) (next : ℕ) : Type 0 where
  pub now_there : new ≡ sets old at text
  pub now_at : next ≡ at + length text

-- and the text is no longer than this
pub record PutWithin (old : List ℕ) (at most : ℕ) (text new : List ℕ) (next : ℕ) : Type 0 where
  pub put : Put old at text new next
  pub short : length text ≤ most
