-- `listing::room::list_refused` meets its contract: the line is written aside, and fits or not. Assumes nothing.
use Prim.Native.Nat.{ℕ}
use native.Mathlib.Omega.{arith}
use lib.ListN.{length-replicate}
use Rattle.listing.proofs.Fits.{fitted_as, aside_is, aside_long}
use Rattle.listing.proofs.room.list_refused.Goals as goal

pub slice_bounds-fit-end : goal.slice_bounds-fit-end
slice_bounds-fit-end c = aside_long c.put_refused-length.ensures (omega (arith, length-replicate {A = ℕ} 64 0))

pub returns : goal.returns
returns c = fitted_as _ _ (aside_is c.put_refused-length.ensures (omega (arith, length-replicate {A = ℕ} 64 0))) c.fit.ensures
