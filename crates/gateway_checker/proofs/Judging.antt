-- What the searches found over the masks of `reach`, as a verdict over chains. Assumes nothing.
use mathlib.Core.Path.{◌≡◌}
use mathlib.Core.Bool.{true, false, ◌||◌}
use Prim.Native.Nat.{ℕ, ◌<◌, ◌≤◌}
use native.Mathlib.Omega.{arith}
use mathlib.Core.List.{List}
use lib.ListN.{length}
use Rattle.masks.specs.Bit.{bit}
use Rattle.chains.specs.Chain.{LoopFree}
use Rattle.chains.specs.Tells.{Tells}
use Rattle.chains.specs.Tests.{FirstPassing}
use Rattle.chains.proofs.Loops.{comes_back_spec}
use Rattle.chains.proofs.Tests.{begins}
use Rattle.reach.specs.Led.{Numbers, Led}
use Rattle.gateway_checker.specs.Searches.{leads_back, ForksEarlier, StartsAt, begins_by}
use Rattle.verdict.specs.Verdicts.{Judged}
use Rattle.verdict.specs.declared.Verdict.TheVariants as verdict
use Rattle.gateway_checker.proofs.Masks.{first_same, back_same, none_begins, begins_same, some_begins}
use Rattle.verdict.proofs.Once.{loop_found, no_loop, doubling_found, no_doubling}

module _ (ss es onward : List ℕ) (led : Led ss es onward) (i : ℕ) (f : FirstPassing (leads_back ss onward) (length ss) i) where
  back : FirstPassing (comes_back_spec ss es) (length ss) i
  back = first_same (leads_back ss onward) (comes_back_spec ss es) (length ss) i (back_same ss es onward led) f

  pub loop_by : i < length ss → Judged ss es (verdict.Loop i)
  loop_by l = loop_found ss es i back l

  module _ (none : length ss ≤ i) (up : ℕ) (told-up : (a : ℕ) → Tells (ForksEarlier ss onward false (length ss) a) (bit up a)) where
    free : LoopFree ss es
    free = no_loop ss es i back none

    pub sound_by : up ≡ 0 → Judged ss es verdict.Sound
    sound_by z = no_doubling ss es free (length ss) (none_begins ss es onward led up told-up z) (omega arith)

    pub doubling_by : (up ≡ 0 → ⊥) → Numbers ss es → (below forks places j : ℕ) → ((a : ℕ) → Tells (ForksEarlier ss onward true (length ss) a) (bit below a))
        → ((a : ℕ) → bit forks a ≡ bit up a || bit below a) → ((x : ℕ) → Tells (StartsAt ss forks (length ss) x) (bit places x))
        → FirstPassing (begins_by onward forks places) (length ss) j → Judged ss es (verdict.Doubling j)
    doubling_by nz low below forks places j told-down either told-places g =
        let same = begins_same ss es onward led up below forks told-up told-down either low places told-places in
        let found = some_begins ss es onward led up below forks told-up told-down either low places told-places j nz g in
        doubling_found ss es free j (first_same (begins_by onward forks places) (begins ss es) (length ss) j same g) found

    -- where some route forks, some route begins a doubling
    pub doubling_there : (up ≡ 0 → ⊥) → Numbers ss es → (below forks places : ℕ) → ((a : ℕ) → Tells (ForksEarlier ss onward true (length ss) a) (bit below a))
        → ((a : ℕ) → bit forks a ≡ bit up a || bit below a) → ((x : ℕ) → Tells (StartsAt ss forks (length ss) x) (bit places x))
        → FirstPassing (begins_by onward forks places) (length ss) (length ss) → ⊥
    doubling_there nz low below forks places told-down either told-places g =
        omega (arith, some_begins ss es onward led up below forks told-up told-down either low places told-places (length ss) nz g)
