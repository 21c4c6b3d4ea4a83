-- Counting over rows. Assumes nothing.
use Rattle.std.specs.Prelude.{ℕ, ◌+◌, ◌-◌, max, Bool, true, false, cond, ◌&&◌, ◌||◌, List, [], ◌∷◌, eqb, ltb, get_or}
use Rattle.catalogue.specs.declared.Raw.{Raw}
use Rattle.faults.specs.Rows.{first_row}

-- the raw count of a row: the counts stand in the order of the rows
abbrev pub raw_of_spec : List ℕ → ℕ → Raw
raw_of_spec counts row = record { 0 = get_or counts (row - first_row) 0 }

-- the level of a row that has one is its raw count
abbrev pub level_of_spec : List ℕ → ℕ → ℕ
level_of_spec counts row = (raw_of_spec counts row).0

-- a row's raw count is the number that is wanted
abbrev pub stands_at_spec : List ℕ → ℕ → ℕ → Bool
stands_at_spec counts wanted row = eqb (raw_of_spec counts row).0 wanted

-- a row's raw count is below a limit
abbrev pub raw_below : List ℕ → ℕ → ℕ → Bool
raw_below counts limit row = ltb (raw_of_spec counts row).0 limit

-- how many of the rows pass a test
unfoldable pub how_many_spec : (ℕ → Bool) → List ℕ → ℕ
how_many_spec test [] = 0
how_many_spec test (row ∷ more) = cond (test row) 1 0 + how_many_spec test more

-- each of the rows passes it
unfoldable pub all_of : (ℕ → Bool) → List ℕ → Bool
all_of test [] = true
all_of test (row ∷ more) = test row && all_of test more

-- one of the rows, at least, passes it
unfoldable pub any_of : (ℕ → Bool) → List ℕ → Bool
any_of test [] = false
any_of test (row ∷ more) = test row || any_of test more

-- the highest count of the rows; 0 of none
unfoldable pub highest_of_spec : (ℕ → ℕ) → List ℕ → ℕ
highest_of_spec count [] = 0
highest_of_spec count (row ∷ more) = max (count row) (highest_of_spec count more)
