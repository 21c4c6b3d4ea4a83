-- `masks::with` meets its contract: a one at k joins the mask. Assumes nothing.
use Rattle.masks.proofs.Bits.{bit_with}
use Rattle.masks.proofs.with.Goals as goal

pub returns : goal.returns
returns c j = bit_with c.args.m c.args.k j c.requires
