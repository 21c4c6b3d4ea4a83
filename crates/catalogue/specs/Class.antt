-- What a raw count of a signal stands for. Assumes nothing.
use Rattle.std.specs.Prelude.{Bool, cond, ◌&&◌, ℕ, ◌^◌, leb, ℤ, pos, Result, Ok, Err}
use Rattle.std.proofs.Math.Option.{Option, none, some}
use Rattle.rows.specs.declared.Mark.{Mark}
use Rattle.rows.specs.declared.MarkKind.{MarkKind}
use Rattle.rows.specs.declared.MarkKind.TheVariants as Kind
use Rattle.rows.specs.declared.Row.{Row}
use Rattle.catalogue.specs.declared.Raw.{Raw}
use Rattle.catalogue.specs.declared.Thousandths.{Thousandths}
use Rattle.catalogue.specs.declared.Class.{Class}
use Rattle.catalogue.specs.declared.Class.TheVariants.{Value, Invalid, Absent, Error, Reserved, Outside}
use Rattle.catalogue.specs.declared.NoClass.{NoClass}
use Rattle.catalogue.specs.declared.NoClass.TheVariants.{NotInCatalogue, TooWide}
use Rattle.rows.specs.RawLimits.{raw_reading}
use Rattle.catalogue.specs.Find.{row_of}

-- first <= count <= last
unfoldable pub between : ℕ → ℕ → ℕ → Bool
between first last count = leb first count && leb count last

-- each kind of marks with the class that it gives; what is unmarked gives none
abbrev pub mark_class : MarkKind → Raw → Option Class
mark_class Kind.Unmarked raw = none
mark_class Kind.Invalid raw = some (Invalid raw)
mark_class Kind.Absent raw = some (Absent raw)
mark_class Kind.Error raw = some (Error raw)
mark_class Kind.Reserved raw = some (Reserved raw)

-- raw x resolution + offset, exactly
abbrev pub reading_of : Row → Raw → Thousandths
reading_of r raw = record { 0 = raw_reading r raw.0 }

-- the mark has the count
abbrev pub has : Mark → Raw → Bool
has m raw = between m.first m.last raw.0

-- the class that a mark gives a count: none where the mark has it not
abbrev pub marked_by : Mark → Raw → Option Class
marked_by m raw = cond (has m raw) (mark_class m.kind raw) none

-- that class, or else another
abbrev pub or_else : Option Class → Class → Class
or_else (some k) other = k
or_else none other = other

-- a mark wins over the range; then value if within the raw limits; else outside
abbrev pub class_in_spec : Row → Raw → Class
class_in_spec r raw =
    or_else (marked_by r.mark1 raw)
    (or_else (marked_by r.mark2 raw)
    (or_else (marked_by r.mark3 raw)
    (cond (between r.lowest r.highest raw.0) (Value (reading_of r raw))
    (Outside raw))))

-- no such signal; or too wide for it; or its class in the signal's row
abbrev pub class_for : Option Row → Raw → Result Class NoClass
class_for none raw = Err NotInCatalogue
class_for (some r) raw = cond (leb (2 ^ r.bits) raw.0) (Err TooWide) (Ok (class_in_spec r raw))

-- the class of a raw count of the signal with a number
unfoldable pub class_of_spec : ℕ → Raw → Result Class NoClass
class_of_spec number raw = class_for (row_of number) raw

-- ---- what document 01 says for each case

-- the number of each refusal
abbrev pub no_class_number : NoClass → ℕ
no_class_number NotInCatalogue = 3
no_class_number TooWide = 26

-- the refusal's number, 0 where nothing is refused
abbrev pub class_number : Result Class NoClass → ℕ
class_number (Ok k) = 0
class_number (Err e) = no_class_number e

-- the number that goes with it: the thousandths of a value, the raw count of any other class
abbrev pub carried_by : Result Class NoClass → ℤ
carried_by (Ok (Value t)) = t.0
carried_by (Ok (Invalid raw)) = pos raw.0
carried_by (Ok (Absent raw)) = pos raw.0
carried_by (Ok (Error raw)) = pos raw.0
carried_by (Ok (Reserved raw)) = pos raw.0
carried_by (Ok (Outside raw)) = pos raw.0
carried_by (Err e) = pos 0
