-- How ends part the signals among the messages, as the code tests it. Assumes nothing: these are definitions.
use Rattle.std.specs.Prelude.{Bool, ◌&&◌, List, [], ◌∷◌, ℕ, ◌-◌, eqb, leb, length, take, drop}
use Rattle.books.specs.Book.{Placement}
use Rattle.books.specs.Good.{good_after}

-- the ends part the placements, n before them, among the messages, each with its own in order, and none is left over
unfoldable pub parted : ℕ → List ℕ → List Placement → Bool
parted n [] ps = eqb (length ps) 0
parted n (e ∷ es) ps = leb n e && (leb (e - n) (length ps) && (good_after [] (take (e - n) ps) && parted e es (drop (e - n) ps)))
