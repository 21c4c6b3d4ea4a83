-- Entries that are all 0. Assumes nothing: these are definitions.
use Rattle.std.specs.Prelude.{Bool, true, ◌&&◌, List, [], ◌∷◌, ℕ, eqb}

unfoldable pub zeros : List ℕ → Bool
zeros [] = true
zeros (x ∷ l) = eqb x 0 && zeros l
