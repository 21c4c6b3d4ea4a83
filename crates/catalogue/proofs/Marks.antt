-- Marks and their kinds: a mark that has a count is of one of the kinds, and each of the kinds gives a class of its own, which is neither a
-- value nor a refusal. Assumes nothing.
use mathlib.Core.Path.{◌≡◌, refl, sym, ◌∙◌, subst}
use mathlib.Core.Logic.{inl, inr}
use mathlib.Core.Bool.{Bool, true, false, cond, true≢false, and-eq-true_iff}
use mathlib.Core.Option.{Option, none, some}
use Prim.Native.Nat.{ℕ}
use native.Mathlib.Omega.{arith}
use lib.Dec.{leb}
use borrow.Author.Tests.{leb-true, le-leb}
use Rattle.rows.specs.declared.Mark.{Mark}
use Rattle.rows.specs.declared.MarkKind.{MarkKind}
use Rattle.rows.specs.declared.MarkKind.TheVariants as Kind
use Rattle.rows.specs.Rows.{unmarked_kind, unmarked}
use Rattle.rows.specs.Rule.{IsKind, Kinded, a_mark, no_mark}
use Rattle.catalogue.specs.declared.Raw.{Raw}
use Rattle.catalogue.specs.declared.Class.{Class}
use Rattle.catalogue.specs.declared.Class.TheVariants.{Invalid, Absent, Error, Reserved}
use Rattle.catalogue.specs.Class.{between, has, mark_class, marked_by}
use Rattle.catalogue.specs.Belongs.{Between, In, Gives}

-- ---- the test of an interval

module _ (first last count : ℕ) where
  pub yes_between : between first last count ≡ true → Between first last count
  unfolding between
  yes_between e =
      let p = (and-eq-true_iff (leb first count) (leb count last)).0 e in
      (leb-true first count p.0, leb-true count last p.1)

  pub is_between : Between first last count → between first last count ≡ true
  unfolding between
  is_between h = simp (le-leb first count h.0, le-leb count last h.1)

  pub not_between : (Between first last count → ⊥) → between first last count ≡ false
  not_between no' = go (between first last count) refl
    where
      go : (b : Bool) → between first last count ≡ b → b ≡ false
      go true e = absurd (no' (yes_between e))
      go false e = refl

  pub none_between : between first last count ≡ false → Between first last count → ⊥
  none_between e h = true≢false (sym (is_between h) ∙ e)

-- ---- kinds

pub no_code : Kinded unmarked
no_code = no_mark refl (omega arith)

-- what is unmarked is of none of the kinds
IsMarked : MarkKind → Type 0
IsMarked Kind.Unmarked = ⊥
IsMarked Kind.Invalid = Unit
IsMarked Kind.Absent = Unit
IsMarked Kind.Error = Unit
IsMarked Kind.Reserved = Unit

pub unmarked_none : IsKind unmarked_kind → ⊥
unfolding IsMarked
unmarked_none (inl e) = subst IsMarked (sym e) tt
unmarked_none (inr (inl e)) = subst IsMarked (sym e) tt
unmarked_none (inr (inr (inl e))) = subst IsMarked (sym e) tt
unmarked_none (inr (inr (inr (inr x)))) = elim x [ ]
unmarked_none (inr (inr (inr (inl e)))) = subst IsMarked (sym e) tt

-- a mark that has a count is of one of the kinds
pub has_kind : (m : Mark) (raw : Raw) → Kinded m → has m raw ≡ true → IsKind m.kind
has_kind m raw (a_mark k h) e = k
has_kind m raw (no_mark k h) e = let b = yes_between m.first m.last raw.0 e in absurd (omega (arith, h, b.0, b.1))

module _ (raw : Raw) where
  -- what holds of the class of each kind, and of none, holds of that of any kind
  pub of_kind_law : (P : Option Class → Type 0) → P (some (Invalid raw)) → P (some (Absent raw)) → P (some (Error raw)) → P (some (Reserved raw)) → P none
      → (kind : MarkKind) → P (mark_class kind raw)
  of_kind_law P i a e r n Kind.Unmarked = n
  of_kind_law P i a e r n Kind.Invalid = i
  of_kind_law P i a e r n Kind.Absent = a
  of_kind_law P i a e r n Kind.Error = e
  of_kind_law P i a e r n Kind.Reserved = r

  -- each of the kinds gives a class
  pub class_given : (kind : MarkKind) → IsKind kind → (k : Class) × (mark_class kind raw ≡ some k)
  class_given Kind.Unmarked is = absurd (unmarked_none is)
  class_given Kind.Invalid is = (Invalid raw, refl)
  class_given Kind.Absent is = (Absent raw, refl)
  class_given Kind.Error is = (Error raw, refl)
  class_given Kind.Reserved is = (Reserved raw, refl)

  -- what a mark says of a count: a class, or that it has it not
  abbrev pub MarkSays : Mark → Option Class → Type 0
  MarkSays m (some k) = Gives m raw k
  MarkSays m none = In m raw → ⊥

  pub mark_says : (m : Mark) → Kinded m → MarkSays m (marked_by m raw)
  mark_says m kinded = go (has m raw) refl
    where
      given : In m raw → (k : Class) × (mark_class m.kind raw ≡ some k) → MarkSays m (mark_class m.kind raw)
      given h c = subst (MarkSays m) (sym c.1) (h, c.1)

      go : (b : Bool) → has m raw ≡ b → MarkSays m (cond b (mark_class m.kind raw) none)
      go true e = given (yes_between m.first m.last raw.0 e) (class_given m.kind (has_kind m raw kinded e))
      go false e = none_between m.first m.last raw.0 e
