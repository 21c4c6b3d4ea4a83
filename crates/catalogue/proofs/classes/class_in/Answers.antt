-- `catalogue::classes::class_in` meets its contract: each way rewrites with the tests that led there.
-- Assumes nothing.
-- the tests on the way
use mathlib.Core.Path.{sym, ap, ◌∙◌}
use Prim.Native.Nat.{◌*◌}
use lib.IntN.{ℤ, pos, ◌+ℤ◌}
use mir.Syntax.{w32}
use mir.Val.{SFits}
use mir.ValLaws.{to_z-of_z}
use borrow.Author.Rules.{rules}
use Rattle.catalogue.specs.declared.Class.TheVariants.{Value}
use Rattle.catalogue.proofs.Marks.{has_kind}
use Rattle.catalogue.proofs.classes.class_in.Goals as goal

pub marked-requires : goal.marked-requires
marked-requires c = has_kind _ _ c.requires.0 (sym c.is_between.ensures ∙ c.if-is_between.true)

pub returns-then-is_between : goal.returns-then-is_between
returns-then-is_between c =
    simp (sym c.marked.ensures, sym c.is_between.ensures ∙ c.if-is_between.true)

pub marked-requires-then-is_between-2 : goal.marked-requires-then-is_between-2
marked-requires-then-is_between-2 c = has_kind _ _ c.requires.1 (sym c.is_between-2.ensures ∙ c.if-is_between-2.true)

pub returns-then-is_between-2 : goal.returns-then-is_between-2
returns-then-is_between-2 c =
    simp (sym c.marked-then-is_between-2.ensures, sym c.is_between.ensures ∙ c.if-is_between.false, sym c.is_between-2.ensures ∙ c.if-is_between-2.true)

pub marked-requires-then-is_between-3 : goal.marked-requires-then-is_between-3
marked-requires-then-is_between-3 c = has_kind _ _ c.requires.2 (sym c.is_between-3.ensures ∙ c.if-is_between-3.true)

pub returns-then-is_between-3 : goal.returns-then-is_between-3
returns-then-is_between-3 c =
    simp (sym c.marked-then-is_between-3.ensures, sym c.is_between.ensures ∙ c.if-is_between.false, sym c.is_between-2.ensures ∙ c.if-is_between-2.false, sym c.is_between-3.ensures ∙ c.if-is_between-3.true)

pub returns-then-is_between-4 : goal.returns-then-is_between-4
returns-then-is_between-4 c =
    let a = c.args in
    let so : SFits w32 a.offset = search rules in
    simp (sym c.is_between.ensures ∙ c.if-is_between.false, sym c.is_between-2.ensures ∙ c.if-is_between-2.false, sym c.is_between-3.ensures ∙ c.if-is_between-3.false, sym c.is_between-4.ensures ∙ c.if-is_between-4.true)
    (ap (λ (z : ℤ). Value (record { 0 = z }))
    (c.reading.ensures ∙ ap (λ (z : ℤ). pos (a.raw.0 * a.resolution) +ℤ z) (to_z-of_z w32 a.offset so)))

pub returns : goal.returns
returns c =
    simp (sym c.is_between.ensures ∙ c.if-is_between.false, sym c.is_between-2.ensures ∙ c.if-is_between-2.false, sym c.is_between-3.ensures ∙ c.if-is_between-3.false, sym c.is_between-4.ensures ∙ c.if-is_between-4.false)
