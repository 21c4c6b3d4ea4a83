-- Demand 3, in its own words: when a text is refused for a loop, when for doubling, when it is taken. Assumes nothing: these are
-- definitions.
use Rattle.std.specs.Prelude.{◌≡◌, ℕ, ◌≤◌, List}
use Rattle.answers.specs.Numbers.{Said, taken, refused}
use Rattle.books.specs.Book.{Book}
use Rattle.book.specs.Answered.{Passes}
use Rattle.demands.specs.RLines.{RLine, text_r_lines, Returning, Joining}

-- some chain of the R lines returns to the bus and identifier it left
pub record Returns (ls : List RLine) : Type 0 where
  pub bus : ℕ
  pub identifier : ℕ
  pub chain : List ℕ
  pub returning : Returning ls bus identifier chain

-- two different chains of the R lines join the same two places
pub record Doubles (ls : List RLine) : Type 0 where
  pub bus : ℕ
  pub identifier : ℕ
  pub to_bus : ℕ
  pub to_identifier : ℕ
  pub chain : List ℕ
  pub another : List ℕ
  pub joining : Joining ls bus identifier to_bus to_identifier chain another

-- the text is not too long and its lines pass
pub record LinesPass (text : List ℕ) : Type 0 where
  pub book : Book
  pub at : List ℕ
  pub passes : Passes text book at

-- its lines pass, and some chain of its routes returns to the bus and identifier it left
pub record Loops (text : List ℕ) : Type 0 where
  pub passes : LinesPass text
  pub returns : Returns (text_r_lines text)

-- its lines pass, and no chain of its routes returns, but two different chains join the same two places
pub record OnlyDoubles (text : List ℕ) : Type 0 where
  pub passes : LinesPass text
  pub none_returns : Returns (text_r_lines text) → ⊥
  pub doubles : Doubles (text_r_lines text)

-- its lines pass, and neither is so
pub record Otherwise (text : List ℕ) : Type 0 where
  pub passes : LinesPass text
  pub none_returns : Returns (text_r_lines text) → ⊥
  pub none_doubles : Doubles (text_r_lines text) → ⊥

-- the answer is this refusal, at some line
pub record RefusedWith (why : ℕ) (s : Said) : Type 0 where
  pub line : ℕ
  pub is : s ≡ refused why line

-- the answer is one of the refusals 1 to 9
pub record RefusedBefore (s : Said) : Type 0 where
  pub why : ℕ
  pub some : 1 ≤ why
  pub low : why ≤ 9
  pub refused : RefusedWith why s

-- the answer is that the text is taken
pub record IsTaken (s : Said) : Type 0 where
  pub messages : ℕ
  pub signals : ℕ
  pub routes : ℕ
  pub is : s ≡ taken messages signals routes
