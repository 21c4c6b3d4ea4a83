-- `numbering::number_all` meets its contract: the first i places are laid and have their numbers. Assumes nothing.
use mathlib.Core.Path.{◌≡◌, sym, ◌∙◌}
use Prim.Native.Nat.{◌+◌}
use native.Mathlib.Omega.{arith}
use lib.ListN.{length, length-append}
use Rattle.numbering.proofs.Laying.{numbering_start, numbering_more, numbering_end}
use Rattle.numbering.proofs.number_all.Goals as goal

pub loop-i-init : goal.loop-i-init
loop-i-init c = numbering_start _ _ _

pub loop-i-preserved : goal.loop-i-preserved
loop-i-preserved c =
    let at-loop = c.loop-i in
    let tos = c.args.tos.now in
    let froms = c.args.froms.now in
    let long : c.len-i-end.result ≡ length tos + length froms = c.len-i-end.ensures ∙ length-append tos froms in
    numbering_more _ _ _ _ _ _ at-loop.invariant c.loop-i-test.true (omega (arith, at-loop.invariant.long, c.requires, long, c.loop-i-test.true)) _ _ c.enter.ensures.0 c.enter.ensures.1

pub returns : goal.returns
returns c = numbering_end _ _ _ _ _ _ c.loop-i.invariant (sym c.len-i-end.ensures) c.loop-i-test.false
