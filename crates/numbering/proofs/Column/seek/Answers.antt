-- `numbering::Column::seek` meets its contract: the slots passed hold other places, and with an empty slot left the search stops. Assumes nothing.
use mathlib.Core.Path.{sym, ◌∙◌}
use native.Mathlib.Omega.{arith}
use Rattle.numbering.proofs.Seeking.{seeking_start, seeking_vain, seeking_empty, seeking_met, seeking_on}
use Rattle.numbering.proofs.Column.seek.Goals as goal

pub loop-tries-init : goal.loop-tries-init
loop-tries-init c = seeking_start _ _ _ _ c.slot_of-at.ensures.0 c.slot_of-at.ensures.1

pub returns-then-key-eq0 : goal.returns-then-key-eq0
returns-then-key-eq0 c =
    let at_wide = c.from-key in
    let at-loop-test = c.loop-tries-test in
    let at-loop = c.loop-tries in
    seeking_empty _ _ _ _ _ at-loop.invariant at-loop-test.true _ at_wide.ensures c.if-key-eq0.true

pub at-requires : goal.at-requires
at-requires c =
    let at_wide = c.from-key in
    let at-loop = c.loop-tries in
    let at_pre = c.requires in
    omega (arith, at_wide.ensures, at_pre.0.low at-loop.at, at_pre.1, c.if-key-eq0.false)

pub returns-then-at-place : goal.returns-then-at-place
returns-then-at-place c =
    let at-place-at = c.at in
    let at_wide = c.from-key in
    let at-loop-test = c.loop-tries-test in
    let at-loop = c.loop-tries in
    seeking_met _ _ _ _ _ at-loop.invariant at-loop-test.true _ at_wide.ensures (sym at-place-at.ensures ∙ c.if-at-place.true)

pub loop-tries-preserved : goal.loop-tries-preserved
loop-tries-preserved c =
    let at-place-at = c.at in
    let at-if1 = c.if-key-eq0 in
    let at_wide = c.from-key in
    let at-loop-test = c.loop-tries-test in
    let at-loop = c.loop-tries in
    seeking_on _ _ _ _ _ at-loop.invariant at-loop-test.true _ at_wide.ensures at-if1.false (λ e. c.if-at-place.false (at-place-at.ensures ∙ e))

pub returns : goal.returns
returns c =
    let at-loop = c.loop-tries in
    let at_pre = c.requires in
    absurd (seeking_vain _ _ _ _ _ at-loop.invariant _ at_pre.0 at_pre.2 c.loop-tries-test.false)
