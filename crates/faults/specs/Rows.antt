-- The rows of table 19, by number, as document 01 sorts them. Assumes nothing.
use Rattle.std.specs.Prelude.{ℕ, zero, suc, ◌-◌, ◌≤◌, ◌≡◌, List, [], ◌∷◌, ◌++◌}

-- so many numbers, one after another, beginning with this one
unfoldable pub counted : ℕ → ℕ → List ℕ
counted zero from = []
counted (suc n) from = from ∷ counted n (suc from)

-- the rows from one to another, both included
abbrev pub rows_between : ℕ → ℕ → List ℕ
rows_between from to = counted (suc to - from) from

-- the fault rows: "1901 to 1927"
abbrev pub first_row : ℕ
first_row = 1901

abbrev pub last_row : ℕ
last_row = 1927

abbrev pub fault_rows : List ℕ
fault_rows = rows_between first_row last_row

-- "27 fault values", one for each row
abbrev pub row_count : ℕ
row_count = 27

-- the row in which the pack itself tells the highest level: "agrees, if 1901 equals the highest"
abbrev pub told_row : ℕ
told_row = first_row

-- "the level rows (1902 to 1914, 1925)"
abbrev pub level_rows : List ℕ
level_rows = rows_between 1902 1914 ++ rows_between 1925 1925

-- "one-bit faults .. (1915 to 1921, 1924, 1926, 1927)"
abbrev pub one_bit_rows : List ℕ
one_bit_rows = rows_between 1915 1921 ++ rows_between 1924 1924 ++ rows_between 1926 1927

-- the rows that make an emergency at level 3: "1902, 1903, 1905, 1907 or 1908"
abbrev pub emergency_rows : List ℕ
emergency_rows = 1902 ∷ 1903 ∷ 1905 ∷ 1907 ∷ 1908 ∷ []

-- the row that makes one at 1: "1921", the fire alarm
abbrev pub fire_row : ℕ
fire_row = 1921

-- there are as many counts as fault rows, and the rows from one to another are fault rows
pub record InTable (size from to : ℕ) : Type 0 where
  pub whole : size ≡ row_count
  pub first : first_row ≤ from
  pub last : to ≤ last_row
