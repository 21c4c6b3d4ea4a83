-- A number from the front of a text up to a byte that ends it. Assumes nothing: these are definitions.
use Rattle.std.specs.Prelude.{ℕ, cond, List, ltb, length, take, Option, Some, None}
use Rattle.parts.specs.Parts.{index_of}

-- a number of k digits
abbrev pub of_digits : Option ℕ → ℕ → Option (ℕ × ℕ)
of_digits (Some n) k = Some (n, k)
of_digits None k = None

-- what stands before the first `stop`, read in one of the forms of a number; nothing where there is no `stop`
unfoldable pub number_before : (List ℕ → Option ℕ) → ℕ → List ℕ → Option (ℕ × ℕ)
number_before form stop text =
    cond (ltb (index_of stop text) (length text)) (of_digits (form (take (index_of stop text) text)) (index_of stop text)) None
