-- `line_writer::put_kind` meets its contract. Assumes nothing.
use Rattle.printing.proofs.Puts.{and_then}
use Rattle.line_writer.proofs.put_kind.Goals as goal

pub returns : goal.returns
returns c = and_then c.put_byte-next.ensures c.put_byte.ensures
