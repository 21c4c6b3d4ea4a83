-- `answer_line::put_field` meets its contract: a tab and a number are no longer than their room. Assumes nothing.
use Rattle.printing.proofs.Puts.{and_then}
use Rattle.answer_line.proofs.Pieces.{field_few}
use Rattle.answer_line.proofs.put_field.Goals as goal

pub returns-clause-put : goal.returns-clause-put
returns-clause-put c = and_then c.put_byte-number.ensures c.put_natural.ensures

pub returns-clause-few : goal.returns-clause-few
returns-clause-few c = field_few (and_then c.put_byte-number.ensures c.put_natural.ensures) c.ranges.n.fits
