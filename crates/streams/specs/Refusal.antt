-- The line of a refusal, as the programs on vectors print it: `no`, a tab, its number in decimal, a newline. Assumes nothing: these are
-- definitions.
use Rattle.std.specs.Prelude.{ℕ, List, [], ◌∷◌, ◌++◌}
use Rattle.printing.specs.Decimal.{natural_text}

-- the word and the tab, in bytes
abbrev pub no_tab : List ℕ
no_tab = 110 ∷ 111 ∷ 9 ∷ []

unfoldable pub refusal_line : ℕ → List ℕ
refusal_line n = (no_tab ++ natural_text n) ++ 10 ∷ []

-- the word and the tab, the longest number, and the newline
abbrev pub refusal_room : ℕ
refusal_room = 24
