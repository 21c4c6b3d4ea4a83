-- Identifiers that messages may have, as a test on their column. Assumes nothing: these are definitions.
use Rattle.std.specs.Prelude.{Bool, true, ◌&&◌, ◌||◌, not, List, [], ◌∷◌, ◌++◌, ℕ, leb}
use Rattle.books.specs.Lines.{is_in, identifier_limit}

-- each is within the limit and stands nowhere before itself
unfoldable pub distinct_after : List ℕ → List ℕ → Bool
distinct_after before [] = true
distinct_after before (i ∷ is) = not (leb identifier_limit i || is_in i before) && distinct_after (before ++ (i ∷ [])) is
