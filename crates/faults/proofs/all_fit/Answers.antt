-- `faults::all_fit` meets its contract: the six runs of one width each are all the rows. Assumes nothing.
use Rattle.faults.proofs.Widths as Widths
use Rattle.faults.proofs.all_fit.Goals as goal

pub returns : goal.returns
returns c =
    simp (Widths.all_fit_law, c.all_below-6.ensures, c.all_below-5.ensures, c.all_below-4.ensures, c.all_below-3.ensures, c.all_below-2.ensures, c.all_below.ensures)
