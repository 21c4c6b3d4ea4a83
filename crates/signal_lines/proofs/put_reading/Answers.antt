-- `signal_lines::put_reading` meets its contract: identifier, number and the rest of the line, tabs between. Assumes nothing.
use mathlib.Core.Path.{subst}
use native.Mathlib.Omega.{arith}
use Rattle.doubles.specs.Doubles.{SmallIfValue}
use Rattle.printing.proofs.Puts.{put_within, put_identifier_law}
use Rattle.printing.proofs.Spelling.{natural_few}
use Rattle.signal_lines.specs.Printed.{listed_line_room}
use Rattle.signal_lines.proofs.Fields.{put_more}
use Rattle.signal_lines.proofs.put_reading.Goals as goal

pub put_byte-third-requires : goal.put_byte-third-requires
put_byte-third-requires c = omega (arith, natural_few c.args.number (omega (arith, c.ranges.number.fits)), c.put_natural-after_number.ensures.now_at, c.put_byte-second.ensures.now_at, c.put_identifier-after_identifier.ensures.0)

pub put_class-requires : goal.put_class-requires
put_class-requires c = (
  omega (arith, natural_few c.args.number (omega (arith, c.ranges.number.fits)), c.put_byte-third.ensures.now_at, c.put_natural-after_number.ensures.now_at, c.put_byte-second.ensures.now_at, c.put_identifier-after_identifier.ensures.0),
  subst SmallIfValue c.in-Ok.is c.requires.1,
)

pub returns-in-Ok : goal.returns-in-Ok
returns-in-Ok c = rw c.in-Ok.is (put_within listed_line_room (put_more _ _ (put_identifier_law _ c.put_identifier-after_identifier.ensures) c.put_byte-second.ensures (put_more _ _ c.put_natural-after_number.ensures c.put_byte-third.ensures c.put_class.ensures.put)) (omega (arith, natural_few c.args.number (omega (arith, c.ranges.number.fits)), c.put_class.ensures.short, c.put_class.ensures.put.now_at, c.put_byte-third.ensures.now_at, c.put_natural-after_number.ensures.now_at, c.put_byte-second.ensures.now_at, c.put_identifier-after_identifier.ensures.0)))

-- where there is no class
pub put_count-requires : goal.put_count-requires
put_count-requires c = (omega (arith, natural_few c.args.number (omega (arith, c.ranges.number.fits)), c.put_byte-third.ensures.now_at, c.put_natural-after_number.ensures.now_at, c.put_byte-second.ensures.now_at, c.put_identifier-after_identifier.ensures.0), omega arith)

pub returns-in-Err : goal.returns-in-Err
returns-in-Err c = rw c.in-Err.is (put_within listed_line_room (put_more _ _ (put_identifier_law _ c.put_identifier-after_identifier.ensures) c.put_byte-second.ensures (put_more _ _ c.put_natural-after_number.ensures c.put_byte-third.ensures c.put_count.ensures.put)) (omega (arith, natural_few c.args.number (omega (arith, c.ranges.number.fits)), c.put_count.ensures.short, c.put_count.ensures.put.now_at, c.put_byte-third.ensures.now_at, c.put_natural-after_number.ensures.now_at, c.put_byte-second.ensures.now_at, c.put_identifier-after_identifier.ensures.0)))
