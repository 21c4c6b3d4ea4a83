-- When a text is taken, and with what book; and what its lines are counted to. Assumes nothing: these are definitions.
use Rattle.std.specs.Prelude.{◌≡◌, ℕ, suc, ◌+◌, ◌≤◌, List, [], ◌∷◌, ◌++◌, length}
use Rattle.record.specs.Limits.{text_limit}
use Rattle.line.specs.declared.Line.{Line}
use Rattle.line.specs.declared.Line.TheVariants as line
use Rattle.chains.specs.Chain.{IsSound}
use Rattle.books.specs.Book.{Book, Route, all_placements}
pub use Rattle.books.specs.Words.{froms, tos}
use Rattle.books.specs.Words.{Stands, RoutesStand}
use Rattle.reading.specs.Reading.{passed, meanings, lines_read}
use Rattle.reading.specs.Written.{Routed}

-- no closed chain of the routes, and no two different chains that join the same two places
abbrev pub SoundRoutes : List Route → Type 0
SoundRoutes rs = IsSound (froms rs) (tos rs)

-- a text is taken with a book: it is not too long, its lines pass and give the book, and the book's routes are sound
pub record TakenWith (text : List ℕ) (b : Book) : Type 0 where
  pub short : length text ≤ text_limit
  pub at : List ℕ
  pub read : lines_read text ≡ passed b at
  pub sound : SoundRoutes b.routes

-- "that of no taken book" (12): tables are those of a taken book where some text is taken with a book whose tables they are.
-- The message and signal tables:
pub record MessagesFrom (w : List ℕ) : Type 0 where
  pub text : List ℕ
  pub book : Book
  pub taken : TakenWith text book
  pub stand : Stands w book.messages

-- and the routes:
pub record RoutesFrom (w : List ℕ) : Type 0 where
  pub text : List ℕ
  pub book : Book
  pub taken : TakenWith text book
  pub stand : RoutesStand w book.routes

-- how many M lines, S lines and R lines there are
unfoldable pub m_lines : List Line → ℕ
m_lines [] = 0
m_lines (line.Message i ∷ ls) = suc (m_lines ls)
m_lines (line.Signal n s ∷ ls) = m_lines ls
m_lines (line.Route a i b j ∷ ls) = m_lines ls
m_lines (line.IllFormed ∷ ls) = m_lines ls

unfoldable pub s_lines : List Line → ℕ
s_lines [] = 0
s_lines (line.Message i ∷ ls) = s_lines ls
s_lines (line.Signal n s ∷ ls) = suc (s_lines ls)
s_lines (line.Route a i b j ∷ ls) = s_lines ls
s_lines (line.IllFormed ∷ ls) = s_lines ls

-- the line numbers of the R lines, of lines from number n on
unfoldable pub r_lines_from : ℕ → List Line → List ℕ
r_lines_from n [] = []
r_lines_from n (line.Message i ∷ ls) = r_lines_from (suc n) ls
r_lines_from n (line.Signal m s ∷ ls) = r_lines_from (suc n) ls
r_lines_from n (line.Route a i b j ∷ ls) = n ∷ r_lines_from (suc n) ls
r_lines_from n (line.IllFormed ∷ ls) = r_lines_from (suc n) ls

-- how many messages, signals and routes there are: as many as the text has M, S and R lines
pub record LineCounts (text : List ℕ) (m s r : ℕ) : Type 0 where
  pub messages : m ≡ m_lines (meanings text)
  pub signals : s ≡ s_lines (meanings text)
  pub routes : r ≡ length (r_lines_from 1 (meanings text))

-- what is counted of a book that lines give after the book b: each count grows by the lines of its kind
pub record CountedOn (n : ℕ) (b : Book) (at : List ℕ) (ls : List Line) (c : Book) (to : List ℕ) : Type 0 where
  pub messages : length c.messages ≡ length b.messages + m_lines ls
  pub signals : length (all_placements c.messages) ≡ length (all_placements b.messages) + s_lines ls
  pub routes : length c.routes ≡ length b.routes + length (r_lines_from n ls)
  pub numbers : to ≡ at ++ r_lines_from n ls

-- routes that stand in the words, few enough, between places, and sound
pub record RoutesIn (w : List ℕ) : Type 0 where
  pub routes : List Route
  pub routed : Routed routes
  pub sound : SoundRoutes routes
  pub stand : RoutesStand w routes
