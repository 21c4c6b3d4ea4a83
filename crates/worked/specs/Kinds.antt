-- Which of the six classes or the two refusals a catalogue answer is, whatever count or reading it carries. Assumes nothing: these are definitions.
use Rattle.std.specs.Prelude.{Result, Ok, Err}
use Rattle.catalogue.specs.declared.Class.{Class}
use Rattle.catalogue.specs.declared.Class.TheVariants as class
use Rattle.catalogue.specs.declared.NoClass.{NoClass}
use Rattle.catalogue.specs.declared.NoClass.TheVariants as refusal

pub data Kind : Type 0 where
  value : Kind
  invalid : Kind
  absent : Kind
  error : Kind
  reserved : Kind
  outside : Kind
  not_in_catalogue : Kind
  too_wide : Kind

abbrev pub kind_of : Result Class NoClass → Kind
kind_of (Ok (class.Value t)) = value
kind_of (Ok (class.Invalid r)) = invalid
kind_of (Ok (class.Absent r)) = absent
kind_of (Ok (class.Error r)) = error
kind_of (Ok (class.Reserved r)) = reserved
kind_of (Ok (class.Outside r)) = outside
kind_of (Err refusal.NotInCatalogue) = not_in_catalogue
kind_of (Err refusal.TooWide) = too_wide
