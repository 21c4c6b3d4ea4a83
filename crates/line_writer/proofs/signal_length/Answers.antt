-- `line_writer::signal_length` meets its contract: letter, two tabs, newline, and the digits of both numbers. Assumes nothing.
use native.Mathlib.Omega.{arith}
use Rattle.numerals.proofs.Decimals.{width_few}
use Rattle.reading.proofs.LineLengths.{signal_long}
use Rattle.line_writer.proofs.signal_length.Goals as goal

pub overflow_add-result : goal.overflow_add-result
overflow_add-result c = omega (arith, c.decimal_width.ensures, width_few c.args.number)

pub overflow_add-result-2 : goal.overflow_add-result-2
overflow_add-result-2 c = omega (arith, c.decimal_width.ensures, c.decimal_width-2.ensures, width_few c.args.number, width_few c.args.start)

pub overflow_cast-result : goal.overflow_cast-result
overflow_cast-result c = omega (arith, c.decimal_width.ensures, c.decimal_width-2.ensures, width_few c.args.number, width_few c.args.start)

pub returns : goal.returns
returns c = omega (arith, c.decimal_width.ensures, c.decimal_width-2.ensures, signal_long c.args.number c.args.start)
