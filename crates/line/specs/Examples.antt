-- Lines, and what they say. Assumes nothing: these are definitions.
use Rattle.std.specs.Prelude.{List, [], ◌∷◌, ℕ}
use Rattle.line.specs.declared.Line.{Line}
use Rattle.line.specs.declared.Line.TheVariants.{Message, Signal, Route, IllFormed}

-- the bytes of a line, without its newline, and what it says
pub record WorkedLine : Type 0 where
  pub line : List ℕ
  pub says : Line

-- a dot is a tab
unfoldable pub worked_lines : List WorkedLine
worked_lines =
    -- M·18FF21F3
    record { line = 77 ∷ 9 ∷ 49 ∷ 56 ∷ 70 ∷ 70 ∷ 50 ∷ 49 ∷ 70 ∷ 51 ∷ []; says = Message 419373555 } ∷
    -- S·203·0
    record { line = 83 ∷ 9 ∷ 50 ∷ 48 ∷ 51 ∷ 9 ∷ 48 ∷ []; says = Signal 203 0 } ∷
    -- S·99999·64
    record { line = 83 ∷ 9 ∷ 57 ∷ 57 ∷ 57 ∷ 57 ∷ 57 ∷ 9 ∷ 54 ∷ 52 ∷ []; says = Signal 99999 64 } ∷
    -- R·0·18FF21F3·1·FFFFFFFF
    record { line = 82 ∷ 9 ∷ 48 ∷ 9 ∷ 49 ∷ 56 ∷ 70 ∷ 70 ∷ 50 ∷ 49 ∷ 70 ∷ 51 ∷ 9 ∷ 49 ∷ 9 ∷ 70 ∷ 70 ∷ 70 ∷ 70 ∷ 70 ∷ 70 ∷ 70 ∷ 70 ∷ []; says = Route 0 419373555 1 4294967295 } ∷
    -- (empty)
    record { line = []; says = IllFormed } ∷
    -- M
    record { line = 77 ∷ []; says = IllFormed } ∷
    -- M·18ff21f3
    record { line = 77 ∷ 9 ∷ 49 ∷ 56 ∷ 102 ∷ 102 ∷ 50 ∷ 49 ∷ 102 ∷ 51 ∷ []; says = IllFormed } ∷
    -- M·18FF21F3·
    record { line = 77 ∷ 9 ∷ 49 ∷ 56 ∷ 70 ∷ 70 ∷ 50 ∷ 49 ∷ 70 ∷ 51 ∷ 9 ∷ []; says = IllFormed } ∷
    -- M·8FF21F3
    record { line = 77 ∷ 9 ∷ 56 ∷ 70 ∷ 70 ∷ 50 ∷ 49 ∷ 70 ∷ 51 ∷ []; says = IllFormed } ∷
    -- S·0203·0
    record { line = 83 ∷ 9 ∷ 48 ∷ 50 ∷ 48 ∷ 51 ∷ 9 ∷ 48 ∷ []; says = IllFormed } ∷
    -- S·203·
    record { line = 83 ∷ 9 ∷ 50 ∷ 48 ∷ 51 ∷ 9 ∷ []; says = IllFormed } ∷
    -- S·203·0\r
    record { line = 83 ∷ 9 ∷ 50 ∷ 48 ∷ 51 ∷ 9 ∷ 48 ∷ 13 ∷ []; says = IllFormed } ∷
    -- S·100000·0
    record { line = 83 ∷ 9 ∷ 49 ∷ 48 ∷ 48 ∷ 48 ∷ 48 ∷ 48 ∷ 9 ∷ 48 ∷ []; says = IllFormed } ∷
    -- X·1
    record { line = 88 ∷ 9 ∷ 49 ∷ []; says = IllFormed } ∷
    -- S·203··0
    record { line = 83 ∷ 9 ∷ 50 ∷ 48 ∷ 51 ∷ 9 ∷ 9 ∷ 48 ∷ []; says = IllFormed } ∷
    []
