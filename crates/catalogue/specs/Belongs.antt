-- Which class a raw count belongs to, said mark by mark and without an order: laws show that each count belongs to one class
-- of its row and no other, and that this is the one of specs/Class.antt. Assumes nothing.
use Rattle.std.specs.Prelude.{◌≡◌, ℕ, ◌≤◌}
use Rattle.std.proofs.Math.Option.{some}
use Rattle.rows.specs.declared.Mark.{Mark}
use Rattle.rows.specs.declared.Row.{Row}
use Rattle.catalogue.specs.declared.Raw.{Raw}
use Rattle.catalogue.specs.declared.Class.{Class}
use Rattle.catalogue.specs.declared.Class.TheVariants.{Value, Outside}
use Rattle.catalogue.specs.Class.{mark_class, reading_of}

-- first <= count <= last
abbrev pub Between : ℕ → ℕ → ℕ → Type 0
Between first last count = (first ≤ count) × (count ≤ last)

-- the count is a code of the mark
abbrev pub In : Mark → Raw → Type 0
In m raw = Between m.first m.last raw.0

-- the count is a code of the mark, whose kind gives the class
abbrev pub Gives : Mark → Raw → Class → Type 0
Gives m raw k = In m raw × (mark_class m.kind raw ≡ some k)

-- no mark of the row has the count
pub record Free (r : Row) (raw : Raw) : Type 0 where
  pub from1 : In r.mark1 raw → ⊥
  pub from2 : In r.mark2 raw → ⊥
  pub from3 : In r.mark3 raw → ⊥

abbrev pub WithinLimits : Row → Raw → Type 0
WithinLimits r raw = Between r.lowest r.highest raw.0

pub data Belongs (r : Row) (raw : Raw) : Class → Type 0 where
  by_mark1 : {k : Class} → Gives r.mark1 raw k → Belongs r raw k
  by_mark2 : {k : Class} → Gives r.mark2 raw k → Belongs r raw k
  by_mark3 : {k : Class} → Gives r.mark3 raw k → Belongs r raw k
  as_value : Free r raw → WithinLimits r raw → Belongs r raw (Value (reading_of r raw))
  as_outside : Free r raw → (WithinLimits r raw → ⊥) → Belongs r raw (Outside raw)
