-- `numbering::Column::enter` meets its contract: a place is new where its search stopped at an empty slot, and laid there. Assumes nothing.
use Rattle.numbering.proofs.Laying.{laid_met, laid_new}
use Rattle.numbering.proofs.Column.enter.Goals as goal

pub returns-then-key-eq0 : goal.returns-then-key-eq0
returns-then-key-eq0 c =
    let at_wide = c.from-key in
    let at-seek = c.seek-at in
    let at-place-at = c.at in
    let at_pre = c.requires in
    laid_new _ _ _ at_pre.0 _ _ _ at-place-at.ensures at-seek.ensures at_wide.ensures c.if-key-eq0.true

pub returns : goal.returns
returns c =
    let at_wide = c.from-key in
    let at-seek = c.seek-at in
    let at-place-at = c.at in
    let at_pre = c.requires in
    laid_met _ _ _ at_pre.0 _ _ _ at-place-at.ensures at-seek.ensures at_wide.ensures c.if-key-eq0.false
