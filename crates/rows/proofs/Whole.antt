-- The catalogue keeps its rule, at each row. Assumes nothing.
use mathlib.Core.Path.{◌≡◌, refl, sym, subst}
use Prim.Native.Nat.{ℕ, ◌<◌}
use lib.ListN.{length, get_or}
use Rattle.rows.specs.Rows.{rows, blank}
use Rattle.rows.specs.Rule.{Rule, Kept}
use Rattle.rows.proofs.Ruled.{at}

pub all_kept : Kept rows
unfolding rows
all_kept = at rows tt

pub count : length rows ≡ 199
unfolding rows
count = refl

pub rule_at : (i : ℕ) → i < 199 → Rule (get_or rows i blank)
rule_at i h = all_kept.rule i (subst (λ (n : ℕ). i < n) (sym count) h)
