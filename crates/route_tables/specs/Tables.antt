-- Refusal 12 for the route tables: when they are those of a taken book; and a record that is, word for word, that of a taken text.
-- Assumes nothing: these are definitions.
use Rattle.std.specs.Prelude.{◌≡◌, ℕ, List}
use Rattle.books.specs.Book.{Book}
use Rattle.books.specs.Words.{words_of, RoutesStand, routes_of}
use Rattle.reading.specs.Taken.{SoundRoutes, TakenWith}

-- the route tables are those of a taken book: the words stand as the routes that they show would, with 0 in every entry past their
-- count, and these have no closed chain, and no two different chains that join the same two places
pub record RoutesTaken (w : List ℕ) : Type 0 where
  pub stand : RoutesStand w (routes_of w)
  pub sound : SoundRoutes (routes_of w)

-- the words are those of the book with which a text is taken
pub record LeftOf (text w : List ℕ) : Type 0 where
  pub book : Book
  pub taken : TakenWith text book
  pub words : w ≡ words_of book

-- with which some text is taken
pub record OfTakenText (w : List ℕ) : Type 0 where
  pub text : List ℕ
  pub left : LeftOf text w
