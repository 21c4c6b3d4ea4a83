-- `catalogue::classes::three_marks` meets its contract: the class is that of the count which was cut.
-- Assumes nothing.
-- the count and its class, put together
use mathlib.Core.Path.{◌≡◌, ap, ◌∙◌}
use mathlib.Core.Option.{some}
use Rattle.std.specs.Prelude.{Ok}
use Prim.Native.Nat.{ℕ, ◌%◌, ◌^◌}
use mir.Syntax.{w32}
use mir.ValLaws.{to_z-of_z}
use Rattle.rows.specs.declared.Row.{Row}
use Rattle.rows.specs.Rows.{row, mark}
use Rattle.catalogue.specs.declared.Class.{Class}
use Rattle.catalogue.specs.declared.Cut.{Cut}
use Rattle.catalogue.specs.Class.{class_in_spec}
use Rattle.catalogue.specs.Cut.{cut_for}
use Rattle.catalogue.proofs.classes.three_marks.Goals as goal

together : (r : Row) (window count : ℕ) (k : Class) → count ≡ window % 2 ^ r.bits → k ≡ class_in_spec r (record { 0 = count })
    → ◌≡◌ {A = Cut} (record { bits = r.bits; raw = record { 0 = count }; class = Ok k }) (cut_for (some r) window)
together r window count k e h =
    let class = h ∙ ap (λ (n : ℕ). class_in_spec r (record { 0 = n })) e in
    λ i. record { bits = r.bits; raw = record { 0 = e i }; class = Ok (class i) }

pub returns : goal.returns
returns c =
    let a = c.args in
    together (row 0 a.bits a.resolution a.offset a.lowest a.highest (mark a.kind1 a.first1 a.last1) (mark a.kind2 a.first2 a.last2) (mark a.kind3 a.first3 a.last3))
    a.window _ _ c.low_bits.ensures (rw (to_z-of_z w32 a.offset c.ranges.offset) at c.class_in-class.ensures)
