-- Readings, raw x resolution + offset: how large they are, that they rise with the count, and that a value's reading lies between those
-- of the raw limits, which are the printed limits wherever such are printed. Assumes nothing.
use mathlib.Core.Path.{◌≡◌, refl, sym, ap, ◌∙◌, subst}
use mathlib.Core.Logic.{⊎_elim}
use mathlib.Core.Bool.{Bool, true, false, cond}
use mathlib.Core.Option.{Option, none, some}
use Prim.Native.Nat.{ℕ, suc, ◌+◌, ◌*◌, ◌-◌, ◌^◌, ◌≤◌, ◌<◌}
use native.Mathlib.Nat.{le_refl, le_of_lt, eq-or-lt_of_le, mul-lt-mul_of_pos_right}
use native.Mathlib.Omega.{arith}
use lib.Dec.{T, leb, ltb, le→leb, lt→ltb, ltb→lt}
use lib.Signed.{mag, lt_z, le_z, ◌<ℤ◌, ◌≤ℤ◌, ≤ℤ_refl}
use lib.IntN.{ℤ, pos, negsuc, nat_abs, ◌+ℤ◌}
use borrow.Author.Tests.{ltb-true, ltb-false}
use Rattle.rows.specs.declared.MarkKind.{MarkKind}
use Rattle.rows.specs.declared.Row.{Row}
use Rattle.rows.specs.Rows.{rows}
use Rattle.rows.specs.Rule.{Rule}
use Rattle.rows.specs.PrintedLimits.{PrintedLimits}
use Rattle.rows.specs.RawLimits.{limits_of, RawLimits}
use Rattle.rows.proofs.Whole.{count}
use Rattle.rows.proofs.Limits.{raw_limits}
use Rattle.catalogue.specs.declared.Raw.{Raw}
use Rattle.catalogue.specs.declared.Thousandths.{Thousandths}
use Rattle.catalogue.specs.declared.Class.{Class}
use Rattle.catalogue.specs.declared.Class.TheVariants.{Value, Invalid, Absent, Error, Reserved, Outside}
use Rattle.catalogue.specs.declared.NoClass.{NoClass}
use Rattle.catalogue.specs.declared.NoClass.TheVariants.{TooWide}
use Rattle.std.specs.Prelude.{Result, Ok, Err, IfOk}
use Rattle.catalogue.specs.Find.{row_of}
use Rattle.catalogue.specs.Class.{mark_class, reading_of, class_in_spec, class_for, class_of_spec, class_number}
use Rattle.catalogue.specs.Belongs.{WithinLimits, Belongs, by_mark1, by_mark2, by_mark3, as_value, as_outside}
use Rattle.catalogue.proofs.Found.{FoundIn, found, RuleOf, rule_of}
use Rattle.catalogue.proofs.Marks.{of_kind_law}
use Rattle.catalogue.proofs.OneClass.{belongs}

-- a + z is no larger than a and z together
pub mag_add : (a : ℕ) (z : ℤ) → mag (pos a +ℤ z) ≤ a + nat_abs z
mag_add a (pos b) = le_refl (a + b)
mag_add a (negsuc b) = go (ltb a (suc b))
  where
    go : (t : Bool) → mag (cond t (negsuc (suc b - suc a)) (pos (a - suc b))) ≤ a + suc b
    go true = omega arith
    go false = omega arith

-- ---- readings rise

-- what is added keeps the order
shift : (a b : ℕ) (z : ℤ) → a < b → (pos a +ℤ z) <ℤ (pos b +ℤ z)
shift a b (pos c) h = record { lt = lt→ltb (a + c) (b + c) (omega arith) }
shift a b (negsuc c) h = record { lt = go (ltb a (suc c)) (ltb b (suc c)) refl refl }
  where
    go : (s t : Bool) → ltb a (suc c) ≡ s → ltb b (suc c) ≡ t → T (lt_z (cond s (negsuc (suc c - suc a)) (pos (a - suc c))) (cond t (negsuc (suc c - suc b)) (pos (b - suc c))))
    go true true p q = let x = ltb-true b (suc c) q in lt→ltb (suc c - suc b) (suc c - suc a) (omega arith)
    go true false p q = tt
    go false true p q = let x = ltb-false a (suc c) p in let y = ltb-true b (suc c) q in absurd (omega arith)
    go false false p q = let x = ltb-false a (suc c) p in lt→ltb (a - suc c) (b - suc c) (omega arith)

less : (a b : ℤ) → T (lt_z a b) → T (le_z a b)
less (pos a) (pos b) t = le→leb a b (le_of_lt (ltb→lt a b t))
less (pos a) (negsuc b) t = t
less (negsuc a) (pos b) t = tt
less (negsuc a) (negsuc b) t = le→leb b a (le_of_lt (ltb→lt b a t))

module _ (r : Row) (rule : Rule r) where
  -- a higher count reads higher
  pub rising : (raw raw' : Raw) → raw.0 < raw'.0 → (reading_of r raw).0 <ℤ (reading_of r raw').0
  rising raw raw' h = shift (raw.0 * r.resolution) (raw'.0 * r.resolution) r.offset (mul-lt-mul_of_pos_right h rule.some_step)

  not_falling : (raw raw' : Raw) → raw.0 ≤ raw'.0 → (reading_of r raw).0 ≤ℤ (reading_of r raw').0
  not_falling raw raw' h = ⊎_elim same higher (eq-or-lt_of_le h)
    where
      same : raw.0 ≡ raw'.0 → (reading_of r raw).0 ≤ℤ (reading_of r raw').0
      same e = subst (λ (n : ℕ). (reading_of r raw).0 ≤ℤ (pos (n * r.resolution) +ℤ r.offset)) e (≤ℤ_refl (reading_of r raw).0)

      higher : raw.0 < raw'.0 → (reading_of r raw).0 ≤ℤ (reading_of r raw').0
      higher k = record { le = less (reading_of r raw).0 (reading_of r raw').0 (rising raw raw' k).lt }

-- ---- a value's reading

-- a class that is a value is the reading of a count within the limits
abbrev Reads : Row → Raw → Class → Type 0
Reads r raw (Value t) = WithinLimits r raw × (t ≡ reading_of r raw)
Reads r raw (Invalid x) = Unit
Reads r raw (Absent x) = Unit
Reads r raw (Error x) = Unit
Reads r raw (Reserved x) = Unit
Reads r raw (Outside x) = Unit

module _ (r : Row) (rule : Rule r) (raw : Raw) where
  -- no kind of marks gives a value
  ByMark : Option Class → Type 0
  ByMark none = Unit
  ByMark (some k) = Reads r raw k

  by_mark : (kind : MarkKind) {k : Class} → mark_class kind raw ≡ some k → Reads r raw k
  unfolding ByMark
  by_mark kind e = subst ByMark e (of_kind_law raw ByMark tt tt tt tt tt kind)

  reads : {k : Class} → Belongs r raw k → Reads r raw k
  reads (by_mark1 h) = by_mark r.mark1.kind h.1
  reads (by_mark2 h) = by_mark r.mark2.kind h.1
  reads (by_mark3 h) = by_mark r.mark3.kind h.1
  reads (as_value f h) = (h, refl)
  reads (as_outside f h) = tt

  reads_or_wide : (b : Bool) → IfOk (cond b (Err TooWide) (Ok (class_in_spec r raw))) (Reads r raw)
  reads_or_wide true = tt
  reads_or_wide false = reads (belongs r raw rule)

  value_reads : (t : Thousandths) → class_for (some r) raw ≡ Ok (Value t) → WithinLimits r raw × (t ≡ reading_of r raw)
  value_reads t e = subst (λ (k : Result Class NoClass). IfOk k (Reads r raw)) e (reads_or_wide (leb (2 ^ r.bits) raw.0))

  -- a value's reading lies between those of the raw limits
  pub within_limits : (t : Thousandths) → class_for (some r) raw ≡ Ok (Value t) → ((reading_of r (record { 0 = r.lowest })).0 ≤ℤ t.0) × (t.0 ≤ℤ (reading_of r (record { 0 = r.highest })).0)
  within_limits t e =
      let v = value_reads t e in (
        subst (λ (x : Thousandths). (reading_of r (record { 0 = r.lowest })).0 ≤ℤ x.0) (sym v.1) (not_falling r rule (record { 0 = r.lowest }) raw v.0.0),
        subst (λ (x : Thousandths). x.0 ≤ℤ (reading_of r (record { 0 = r.highest })).0) (sym v.1) (not_falling r rule raw (record { 0 = r.highest }) v.0.1),
      )

  -- and between the printed ones, which these are
  within_those : (t : Thousandths) (p : PrintedLimits) → RawLimits r (some p) → class_for (some r) raw ≡ Ok (Value t) → (p.lowest ≤ℤ t.0) × (t.0 ≤ℤ p.highest)
  within_those t p limits e =
      let v = within_limits t e in
      (subst (λ (z : ℤ). z ≤ℤ t.0) limits.0.reads v.0, subst (λ (z : ℤ). t.0 ≤ℤ z) limits.1.reads v.1)

-- a signal's value lies between the limits that are printed for it
pub within_printed : (n : ℕ) (raw : Raw) (t : Thousandths) (p : PrintedLimits) → class_of_spec n raw ≡ Ok (Value t) → limits_of n ≡ some p → (p.lowest ≤ℤ t.0) × (t.0 ≤ℤ p.highest)
unfolding class_of_spec
within_printed n raw t p e printed = go (row_of n) (found n) (rule_of n) e
  where
    go : (o : Option Row) → FoundIn n rows o → RuleOf o → class_for o raw ≡ Ok (Value t) → (p.lowest ≤ℤ t.0) × (t.0 ≤ℤ p.highest)
    go none f rule k = absurd (omega (arith, ap class_number k))
    go (some r) f rule k =
        let here : RawLimits r (limits_of r.number) = subst (λ (x : Row). RawLimits x (limits_of x.number)) f.1.1.0 (raw_limits f.0 (subst (λ (m : ℕ). f.0 < m) count f.1.0)) in
        within_those r rule raw t p (subst (RawLimits r) (ap limits_of f.1.1.1 ∙ printed) here) k
