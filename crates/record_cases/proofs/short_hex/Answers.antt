-- `record_cases::short_hex` meets its contract: the zeros before the two digits add nothing. Assumes nothing.
use Rattle.numerals.specs.Numeral.{digit_value, numeral_from, identifier}
use Rattle.record_cases.proofs.short_hex.Goals as goal

pub returns : goal.returns
unfolding identifier numeral_from digit_value
returns c = c.identifier_or_0.ensures
