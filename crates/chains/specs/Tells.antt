-- What an answer of yes or no tells. Assumes nothing: this is a definition.
use Rattle.std.specs.Prelude.{Bool, true, false}

-- r says whether P holds
abbrev pub Tells : Type 0 → Bool → Type 0
Tells P true = P
Tells P false = P → ⊥
