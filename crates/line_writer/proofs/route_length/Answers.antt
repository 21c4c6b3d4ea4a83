-- `line_writer::route_length` meets its contract: a number of 32 bits is a place, whose bus has one digit. Assumes nothing.
use native.Mathlib.Omega.{arith}
use Rattle.reading.proofs.LineLengths.{bus_digit, route_long}
use Rattle.line_writer.proofs.route_length.Goals as goal

pub overflow_add-result : goal.overflow_add-result
overflow_add-result c = omega (arith, c.decimal_width.ensures, bus_digit c.args.from c.ranges.from.fits)

pub overflow_add-result-2 : goal.overflow_add-result-2
overflow_add-result-2 c = omega (arith, c.decimal_width.ensures, c.decimal_width-2.ensures, bus_digit c.args.from c.ranges.from.fits, bus_digit c.args.to c.ranges.to.fits)

pub overflow_cast-result : goal.overflow_cast-result
overflow_cast-result c = omega (arith, c.decimal_width.ensures, c.decimal_width-2.ensures, bus_digit c.args.from c.ranges.from.fits, bus_digit c.args.to c.ranges.to.fits)

pub returns : goal.returns
returns c = omega (arith, c.decimal_width.ensures, c.decimal_width-2.ensures, bus_digit c.args.from c.ranges.from.fits, bus_digit c.args.to c.ranges.to.fits, route_long c.args.from c.args.to c.ranges.from.fits c.ranges.to.fits)
