-- `listing::line::list_line` meets its contract: what the line says is printed. Assumes nothing.
use mathlib.Core.Path.{sym, ◌∙◌}
use Rattle.frame_lines.proofs.Behind.{says_frame, says_fewer, says_ill}
use Rattle.listing.proofs.Prints.{line_frame, line_fewer, line_ill}
use Rattle.listing.proofs.Fits.{fitted_as}
use Rattle.listing.proofs.line.list_line.Goals as goal

pub returns-in-Frame : goal.returns-in-Frame
returns-in-Frame c = fitted_as _ _ (line_frame _ _ _ (says_frame _ (sym c.in-Frame.is ∙ c.read_frame_line.ensures))) c.list_frame.ensures

pub returns-in-NotEightBytes : goal.returns-in-NotEightBytes
returns-in-NotEightBytes c = fitted_as _ _ (line_fewer _ _ _ (says_fewer _ (sym c.in-NotEightBytes.is ∙ c.read_frame_line.ensures))) c.list_refused.ensures

pub returns-in-IllFormed : goal.returns-in-IllFormed
returns-in-IllFormed c = fitted_as _ _ (line_ill _ _ _ (says_ill _ (sym c.in-IllFormed.is ∙ c.read_frame_line.ensures))) c.list_ill_formed.ensures
