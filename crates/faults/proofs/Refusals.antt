-- When a sum is refused, by document 01's numbers; and that the counts it asks for are one for each row. Assumes nothing.
use mathlib.Core.Path.{◌≡◌, refl}
use mathlib.Core.Bool.{Bool, true, false, cond}
use mathlib.Core.List.{List}
use Prim.Native.Nat.{ℕ}
use lib.Dec.{eqb}
use lib.ListN.{length}
use Rattle.std.specs.Prelude.{Ok, Err}
use Rattle.faults.specs.declared.FaultRefusal.TheVariants.{NotTwentySeven, TooWide}
use Rattle.faults.specs.Rows.{counted, fault_rows, row_count}
use Rattle.faults.specs.Sum.{fault_refusal, all_fit, sum_of, answer_to}

-- "27 fault values": one for each row
pub one_each : length fault_rows ≡ row_count
unfolding counted
one_each = refl

-- 31: "not 27 fault values"; then 32: "one too wide"
pub refused : (counts : List ℕ) → fault_refusal (answer_to counts) ≡ cond (eqb (length counts) row_count) (cond (all_fit counts) 0 32) 31
unfolding answer_to
refused counts = go (eqb (length counts) row_count) (all_fit counts)
  where
    go : (a b : Bool) → fault_refusal (cond a (cond b (Ok (sum_of counts)) (Err TooWide)) (Err NotTwentySeven)) ≡ cond a (cond b 0 32) 31
    go true true = refl
    go true false = refl
    go false b = refl
