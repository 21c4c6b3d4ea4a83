-- `catalogue::widths::bits_at` meets its contract: the column has the signal's bits at its place. Assumes nothing.
use mathlib.Core.Path.{sym}
use Rattle.catalogue.proofs.Placed.{no_bits, in_widths, its_bits}
use Rattle.catalogue.proofs.widths.bits_at.Goals as goal

pub returns-in_default : goal.returns-in_default
returns-in_default c = sym (no_bits _ c.in_default.ensures)

pub bounds-widths-place : goal.bounds-widths-place
bounds-widths-place c = in_widths _ _ _ c.requires.bits c.in-Some.ensures

pub returns : goal.returns
returns c = its_bits _ _ _ c.requires.bits c.in-Some.ensures _ c.from.ensures
