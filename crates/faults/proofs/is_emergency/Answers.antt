-- `faults::is_emergency` meets its contract: the six tests are those of the list and the fire alarm. Assumes nothing.
-- five tests of a list and one more, as the code takes them together
use mathlib.Core.Path.{◌≡◌}
use mathlib.Core.Bool.{Bool, false, ◌||◌, or_assoc}
use Rattle.faults.specs.Counts.{any_of}
use Rattle.faults.specs.Sum.{is_emergency_spec}
use Rattle.faults.proofs.is_emergency.Goals as goal

together : {a b c d e f p q r s t u : Bool} → a ≡ p → b ≡ q → c ≡ r → d ≡ s → e ≡ t → f ≡ u
    → ((((a || b) || c) || d) || e) || f ≡ (p || (q || (r || (s || (t || false))))) || u
together h i j k l m = simp (h, i, j, k, l, m, or_assoc)

pub returns : goal.returns
unfolding is_emergency_spec any_of
returns c =
    together c.stands_at.ensures c.stands_at-2.ensures c.stands_at-3.ensures c.stands_at-4.ensures c.stands_at-5.ensures c.stands_at-6.ensures
