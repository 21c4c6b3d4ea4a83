-- The rule that the whole catalogue keeps: numbers rise, bits are 1 to 32, lowest <= highest < 2^bits, mark intervals lie
-- within the bits and do not meet each other. Beside that, each mark is of one of the four kinds, a resolution is no zero, and
-- every reading is so small that a double holds it exactly. Assumes nothing.
use Rattle.std.specs.Prelude.{◌≡◌, ◌⊎◌, List, [], ◌∷◌, ℕ, ◌+◌, ◌*◌, ◌^◌, ◌≤◌, ◌<◌, get_or, length, nat_abs}
use Rattle.rows.specs.declared.Mark.{Mark}
use Rattle.rows.specs.declared.MarkKind.{MarkKind}
use Rattle.rows.specs.declared.Row.{Row}
use Rattle.rows.specs.Rows.{blank, unmarked_kind, mark_kinds}

abbrev pub most_bits : ℕ
most_bits = 32

-- every whole number up to this one is a double
abbrev pub exact_doubles : ℕ
exact_doubles = 2 ^ 53

-- no code belongs to both marks
abbrev pub Apart : Mark → Mark → Type 0
Apart m m' = (n : ℕ) → m.first ≤ n → n ≤ m.last → m'.first ≤ n → n ≤ m'.last → ⊥

-- a kind is one of a list
abbrev pub Among : List MarkKind → MarkKind → Type 0
Among [] k = ⊥
Among (x ∷ xs) k = (k ≡ x) ⊎ Among xs k

-- invalid, absent, error or reserved
abbrev pub IsKind : MarkKind → Type 0
IsKind k = Among mark_kinds k

-- a mark is of one of the four kinds and has a code; where there is no mark, there is no code
pub data Kinded (m : Mark) : Type 0 where
  a_mark : IsKind m.kind → m.first ≤ m.last → Kinded m
  no_mark : m.kind ≡ unmarked_kind → m.last < m.first → Kinded m

pub record Rule (r : Row) : Type 0 where
  pub some_bits : 1 ≤ r.bits
  pub few_bits : r.bits ≤ most_bits
  pub some_step : 1 ≤ r.resolution
  pub limits : r.lowest ≤ r.highest
  pub highest_fits : r.highest < 2 ^ r.bits
  pub mark1_fits : r.mark1.last < 2 ^ r.bits
  pub mark2_fits : r.mark2.last < 2 ^ r.bits
  pub mark3_fits : r.mark3.last < 2 ^ r.bits
  pub apart12 : Apart r.mark1 r.mark2
  pub apart13 : Apart r.mark1 r.mark3
  pub apart23 : Apart r.mark2 r.mark3
  pub mark1_kind : Kinded r.mark1
  pub mark2_kind : Kinded r.mark2
  pub mark3_kind : Kinded r.mark3
  pub small : 2 ^ r.bits * r.resolution + nat_abs r.offset ≤ exact_doubles

pub record Kept (rs : List Row) : Type 0 where
  pub rule : (i : ℕ) → i < length rs → Rule (get_or rs i blank)
  pub rising : (i j : ℕ) → i < j → j < length rs → (get_or rs i blank).number < (get_or rs j blank).number
