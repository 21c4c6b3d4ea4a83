-- `line_writer::put_place` meets its contract: a number of 32 bits is a place, whose bus has one digit. Assumes nothing.
use native.Mathlib.Omega.{arith}
use Rattle.printing.proofs.Puts.{put_identifier_law, put_decimal_law}
use Rattle.reading.proofs.LineLengths.{bus_digit}
use Rattle.line_writer.proofs.Pieces.{place_put}
use Rattle.line_writer.proofs.put_place.Goals as goal

pub put_decimal-after_bus-requires : goal.put_decimal-after_bus-requires
put_decimal-after_bus-requires c = (omega (arith, c.ranges.place.fits), omega (arith, c.requires, bus_digit c.args.place c.ranges.place.fits))

pub put_byte-second-requires : goal.put_byte-second-requires
put_byte-second-requires c = omega (arith, c.requires, bus_digit c.args.place c.ranges.place.fits, c.put_decimal-after_bus.ensures.0)

pub put_identifier-requires : goal.put_identifier-requires
put_identifier-requires c = omega (arith, c.requires, bus_digit c.args.place c.ranges.place.fits, c.put_decimal-after_bus.ensures.0, c.put_byte-second.ensures.now_at)

pub returns : goal.returns
returns c = place_put _ (put_decimal_law _ c.put_decimal-after_bus.ensures) c.put_byte-second.ensures (put_identifier_law _ c.put_identifier.ensures)
