-- The fault sum over the raw counts of 1901 to 1927, or refusal 31 or 32, in document 01's words. Assumes nothing.
use Rattle.std.specs.Prelude.{ℕ, ◌^◌, Bool, cond, ◌||◌, List, eqb, length, Result, Ok, Err}
use Rattle.catalogue.specs.Find.{bits_of_spec}
use Rattle.faults.specs.declared.FaultSum.{FaultSum}
use Rattle.faults.specs.declared.FaultRefusal.{FaultRefusal}
use Rattle.faults.specs.declared.FaultRefusal.TheVariants.{NotTwentySeven, TooWide}
use Rattle.faults.specs.Rows.{fault_rows, row_count, told_row, level_rows, one_bit_rows, emergency_rows, fire_row}
use Rattle.faults.specs.Counts.{level_of_spec, stands_at_spec, raw_below, how_many_spec, all_of, any_of, highest_of_spec}

-- the answer: the sum, or why nothing is summed
abbrev pub FaultAnswer : Type 0
FaultAnswer = Result FaultSum FaultRefusal

-- document 01's number of each answer; 0 is no refusal
abbrev pub fault_refusal : FaultAnswer → ℕ
fault_refusal (Ok s) = 0
fault_refusal (Err NotTwentySeven) = 31
fault_refusal (Err TooWide) = 32

-- none is "too wide": each count is below 2 to the bits that its signal has in the catalogue
unfoldable pub all_fit : List ℕ → Bool
all_fit counts = all_of (λ row. raw_below counts (2 ^ bits_of_spec row) row) fault_rows

-- "emergency, if 1902, 1903, 1905, 1907 or 1908 is 3 or 1921 is 1"
unfoldable pub is_emergency_spec : List ℕ → Bool
is_emergency_spec counts = any_of (stands_at_spec counts 3) emergency_rows || stands_at_spec counts 1 fire_row

-- "highest of the level rows ..; how many of those stand at 1, 2 and 3; how many one-bit faults are set ..; emergency, ..; agrees, if 1901 equals the highest"
abbrev pub sum_of : List ℕ → FaultSum
sum_of counts =
    record {
      highest = highest_of_spec (level_of_spec counts) level_rows;
      at_1 = how_many_spec (stands_at_spec counts 1) level_rows;
      at_2 = how_many_spec (stands_at_spec counts 2) level_rows;
      at_3 = how_many_spec (stands_at_spec counts 3) level_rows;
      set = how_many_spec (stands_at_spec counts 1) one_bit_rows;
      emergency = is_emergency_spec counts;
      agrees = stands_at_spec counts (highest_of_spec (level_of_spec counts) level_rows) told_row;
    }

-- 31: "not 27 fault values"; 32: "one too wide"; "nothing summed"
unfoldable pub answer_to : List ℕ → FaultAnswer
answer_to counts = cond (eqb (length counts) row_count) (cond (all_fit counts) (Ok (sum_of counts)) (Err TooWide)) (Err NotTwentySeven)
