-- `listing::message::list_signals` meets its contract: the lines stand at their place, or are written aside, and fit or not. Assumes nothing.
use Prim.Native.Nat.{ℕ}
use native.Mathlib.Omega.{arith}
use lib.ListN.{length-replicate}
use Rattle.listing.proofs.Fits.{fits, fitted_as, aside_is, aside_long}
use Rattle.listing.proofs.message.list_signals.Goals as goal

pub put_signals-requires : goal.put_signals-requires
put_signals-requires c = record { same = c.requires.same; fit = c.requires.fit; inside = omega (arith, c.if-numbers-out.true, c.requires.inside) }

pub returns-then-numbers-out : goal.returns-then-numbers-out
returns-then-numbers-out c = fits _ _ _ (omega (arith, c.put_signals.ensures.short, c.if-numbers-out.true)) c.put_signals.ensures.put

pub put_signals-length-requires : goal.put_signals-length-requires
put_signals-length-requires c = record { same = c.requires.same; fit = c.requires.fit; inside = omega (arith, length-replicate {A = ℕ} 4096 0, c.requires.many) }

pub slice_bounds-fit-end : goal.slice_bounds-fit-end
slice_bounds-fit-end c = aside_long c.put_signals-length.ensures (omega (arith, length-replicate {A = ℕ} 4096 0, c.requires.many))

pub returns : goal.returns
returns c = fitted_as _ _ (aside_is c.put_signals-length.ensures (omega (arith, length-replicate {A = ℕ} 4096 0, c.requires.many))) c.fit.ensures
