-- Each count belongs to one class of its row and no other; a mark wins over the range. Assumes nothing.
use mathlib.Core.Path.{◌≡◌, refl, sym, ap, ◌∙◌, subst}
use mathlib.Core.Bool.{Bool, true, false, cond}
use mathlib.Core.Option.{Option, none, some}
use Prim.Native.Nat.{ℕ, ◌^◌, ◌≤◌, ◌<◌}
use borrow.Author.Tests.{le-leb, lt-leb}
use Rattle.rows.specs.declared.Mark.{Mark}
use Rattle.rows.specs.declared.Row.{Row}
use Rattle.rows.specs.Rule.{Rule}
use Rattle.catalogue.specs.declared.Raw.{Raw}
use Rattle.catalogue.specs.declared.Thousandths.{Thousandths}
use Rattle.catalogue.specs.declared.Class.{Class}
use Rattle.catalogue.specs.declared.Class.TheVariants.{Value, Invalid, Absent, Error, Reserved, Outside}
use Rattle.catalogue.specs.declared.NoClass.TheVariants.{NotInCatalogue, TooWide}
use Rattle.std.specs.Prelude.{Ok, Err}
use Rattle.catalogue.specs.Find.{row_of}
use Rattle.catalogue.specs.Class.{between, has, mark_class, marked_by, or_else, reading_of, class_in_spec, class_for, class_of_spec, class_number}
use Rattle.catalogue.specs.Belongs.{In, Gives, Belongs, by_mark1, by_mark2, by_mark3, as_value, as_outside}
use Rattle.catalogue.proofs.Found.{RuleOf, rule_of}
use Rattle.catalogue.proofs.Marks.{yes_between, is_between, not_between, none_between, of_kind_law, MarkSays, mark_says}

-- ---- a count belongs to its class, and to no other

module _ (r : Row) (raw : Raw) where
  belongs_by : (o1 o2 o3 : Option Class) (b : Bool) → MarkSays raw r.mark1 o1 → MarkSays raw r.mark2 o2 → MarkSays raw r.mark3 o3 → between r.lowest r.highest raw.0 ≡ b
      → Belongs r raw (or_else o1 (or_else o2 (or_else o3 (cond b (Value (reading_of r raw)) (Outside raw)))))
  belongs_by (some k) o2 o3 b s1 s2 s3 e = by_mark1 s1
  belongs_by none (some k) o3 b s1 s2 s3 e = by_mark2 s2
  belongs_by none none (some k) b s1 s2 s3 e = by_mark3 s3
  belongs_by none none none true s1 s2 s3 e = as_value (record { from1 = s1; from2 = s2; from3 = s3 }) (yes_between r.lowest r.highest raw.0 e)
  belongs_by none none none false s1 s2 s3 e = as_outside (record { from1 = s1; from2 = s2; from3 = s3 }) (none_between r.lowest r.highest raw.0 e)

  yes_in : (m : Mark) → In m raw → has m raw ≡ true
  yes_in m h = is_between m.first m.last raw.0 h

  not_in : (m : Mark) → (In m raw → ⊥) → has m raw ≡ false
  not_in m h = not_between m.first m.last raw.0 h

  module _ (rule : Rule r) where
    pub belongs : Belongs r raw (class_in_spec r raw)
    belongs =
        belongs_by (marked_by r.mark1 raw) (marked_by r.mark2 raw) (marked_by r.mark3 raw) (between r.lowest r.highest raw.0)
        (mark_says raw r.mark1 rule.mark1_kind) (mark_says raw r.mark2 rule.mark2_kind) (mark_says raw r.mark3 rule.mark3_kind) refl

    -- a mark wins over the range, whichever of the three it is
    module _ {k : Class} where
      pub mark1_wins : Gives r.mark1 raw k → class_in_spec r raw ≡ k
      mark1_wins h = simp (yes_in r.mark1 h.0, h.1)

      pub mark2_wins : Gives r.mark2 raw k → class_in_spec r raw ≡ k
      mark2_wins h =
          simp (not_in r.mark1 (λ i. rule.apart12 raw.0 i.0 i.1 h.0.0 h.0.1), yes_in r.mark2 h.0, h.1)

      pub mark3_wins : Gives r.mark3 raw k → class_in_spec r raw ≡ k
      mark3_wins h =
          simp (
            not_in r.mark1 (λ i. rule.apart13 raw.0 i.0 i.1 h.0.0 h.0.1),
            not_in r.mark2 (λ i. rule.apart23 raw.0 i.0 i.1 h.0.0 h.0.1),
            yes_in r.mark3 h.0,
            h.1,
          )

    -- no count belongs to two classes
    pub one_class : {k : Class} → Belongs r raw k → k ≡ class_in_spec r raw
    one_class (by_mark1 h) = sym (mark1_wins h)
    one_class (by_mark2 h) = sym (mark2_wins h)
    one_class (by_mark3 h) = sym (mark3_wins h)
    one_class (as_value f h) =
        simp (not_in r.mark1 f.from1, not_in r.mark2 f.from2, not_in r.mark3 f.from3, is_between r.lowest r.highest raw.0 h)
    one_class (as_outside f h) =
        simp (not_in r.mark1 f.from1, not_in r.mark2 f.from2, not_in r.mark3 f.from3, not_between r.lowest r.highest raw.0 h)

-- ---- what holds of every class that a row can give

module _ (P : Class → Type 0) (raw : Raw) (invalid : P (Invalid raw)) (absent : P (Absent raw)) (error : P (Error raw)) (reserved : P (Reserved raw)) where
  abbrev OfSome : Option Class → Type 0
  OfSome none = Unit
  OfSome (some k) = P k

  if_marked : (o : Option Class) (b : Bool) → OfSome o → OfSome (cond b o none)
  if_marked o true p = p
  if_marked o false p = tt

  of_mark : (m : Mark) → OfSome (marked_by m raw)
  of_mark m = if_marked (mark_class m.kind raw) (has m raw) (of_kind_law raw OfSome invalid absent error reserved tt m.kind)

  -- a class, or that of the range
  of_either : (o : Option Class) (k : Class) → OfSome o → P k → P (or_else o k)
  of_either (some k') k p q = p
  of_either none k p q = q

  of_range : (b : Bool) (t : Thousandths) → P (Value t) → P (Outside raw) → P (cond b (Value t) (Outside raw))
  of_range true t v o = v
  of_range false t v o = o

  pub of_class : (r : Row) → P (Value (reading_of r raw)) → P (Outside raw) → P (class_in_spec r raw)
  of_class r value outside =
      of_either (marked_by r.mark1 raw) _ (of_mark r.mark1)
      (of_either (marked_by r.mark2 raw) _ (of_mark r.mark2)
      (of_either (marked_by r.mark3 raw) _ (of_mark r.mark3)
      (of_range (between r.lowest r.highest raw.0) (reading_of r raw) value outside)))

-- none of them is a refusal
pub not_refused : (raw : Raw) (r : Row) → class_number (Ok (class_in_spec r raw)) ≡ 0
not_refused raw r = refl

-- ---- by the signal's number

module _ (n : ℕ) (raw : Raw) where
  pub no_signal : row_of n ≡ none → class_of_spec n raw ≡ Err NotInCatalogue
  unfolding class_of_spec
  no_signal e = ap (λ (o : Option Row). class_for o raw) e

  module _ (r : Row) (e : row_of n ≡ some r) where
    pub rule_found : Rule r
    rule_found = subst RuleOf e (rule_of n)

    pub too_wide : 2 ^ r.bits ≤ raw.0 → class_of_spec n raw ≡ Err TooWide
    unfolding class_of_spec
    too_wide h = ap (λ (o : Option Row). class_for o raw) e ∙ simp (le-leb (2 ^ r.bits) raw.0 h)

    -- a count that fits has a class, and belongs to no other
    pub in_row : raw.0 < 2 ^ r.bits → class_of_spec n raw ≡ Ok (class_in_spec r raw)
    unfolding class_of_spec
    in_row h = ap (λ (o : Option Row). class_for o raw) e ∙ simp (lt-leb (2 ^ r.bits) raw.0 h)

    pub has_class : raw.0 < 2 ^ r.bits → (k : Class) × ((class_of_spec n raw ≡ Ok k) × Belongs r raw k)
    has_class h = (class_in_spec r raw, (in_row h, belongs r raw rule_found))

    pub only_class : raw.0 < 2 ^ r.bits → {k : Class} → Belongs r raw k → Ok k ≡ class_of_spec n raw
    only_class h b = ap (λ k. Ok k) (one_class r raw rule_found b) ∙ sym (in_row h)
