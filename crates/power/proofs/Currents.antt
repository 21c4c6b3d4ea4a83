-- "under 10 A either way": the raw counts 19,901 to 20,099 are those that the catalogue, as counts of 203, reads to a value nearer to 0 than
-- 10,000 thousandths. Assumes nothing.
use mathlib.Core.Path.{◌≡◌, refl}
use mathlib.Core.Bool.{Bool, true, false, cond, ◌&&◌}
use Prim.Native.Nat.{ℕ, suc, ◌*◌, ◌-◌}
use native.Mathlib.Omega.{arith}
use borrow.Author.Tests.{leb-true, leb-false, ltb-true, ltb-false, lt-ltb, le-ltb}
use lib.Dec.{leb, ltb}
use lib.IntN.{pos, negsuc}
use Rattle.std.specs.Prelude.{Ok, Err}
use Rattle.catalogue.specs.declared.Raw.{Raw}
use Rattle.catalogue.specs.declared.Class.TheVariants.{Value, Invalid}
use Rattle.catalogue.specs.declared.NoClass.TheVariants.{TooWide}
use Rattle.catalogue.specs.Class.{class_of_spec}
use Rattle.power.specs.Observed.{under10_a, value_under10_a}
use Rattle.power.proofs.Readings.{current_203}

module _ (raw : Raw) where
  abbrev count : ℕ
  count = raw.0

  pub either_way : under10_a raw ≡ value_under10_a (class_of_spec 203 raw)
  either_way = rw (current_203 raw) (go (ltb count 65535) (ltb (count * 100) 2000000) (leb 65536 count) (leb 19901 count) (leb count 20099) refl refl refl refl)
    where
      go : (value negative wide low high : Bool) → ltb count 65535 ≡ value → ltb (count * 100) 2000000 ≡ negative → leb 19901 count ≡ low → leb count 20099 ≡ high
          → low && high ≡ value_under10_a (cond value (Ok (Value (record { 0 = cond negative (negsuc (2000000 - suc (count * 100))) (pos (count * 100 - 2000000)) }))) (cond wide (Err TooWide) (Ok (Invalid raw))))
      go true true w true true v n l h = simp (lt-ltb (2000000 - suc (count * 100)) 9999 (omega (arith, ltb-true (count * 100) 2000000 n, leb-true 19901 count l)))
      go true true w false true v n l h = simp (le-ltb (2000000 - suc (count * 100)) 9999 (omega (arith, ltb-true (count * 100) 2000000 n, leb-false 19901 count l)))
      go true true w l false v n e h = absurd (omega (arith, ltb-true (count * 100) 2000000 n, leb-false count 20099 h))
      go true false w true true v n l h = simp (lt-ltb (count * 100 - 2000000) 10000 (omega (arith, ltb-false (count * 100) 2000000 n, leb-true count 20099 h)))
      go true false w true false v n l h = simp (le-ltb (count * 100 - 2000000) 10000 (omega (arith, ltb-false (count * 100) 2000000 n, leb-false count 20099 h)))
      go true false w false h v n l e = absurd (omega (arith, ltb-false (count * 100) 2000000 n, leb-false 19901 count l))
      go false n w l true v e f h = absurd (omega (arith, ltb-false count 65535 v, leb-true count 20099 h))
      go false n true true false v e f h = refl
      go false n true false false v e f h = refl
      go false n false true false v e f h = refl
      go false n false false false v e f h = refl
