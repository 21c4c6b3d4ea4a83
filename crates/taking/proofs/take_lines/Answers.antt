-- `taking::take_lines` meets its contract: the answer for the rest, after the book so far, is the answer for the whole. Assumes nothing.
use native.Mathlib.Omega.{arith}
use Rattle.taking.proofs.Going.{read, start, all_taken, refused_here, goes_on}
use Rattle.taking.proofs.take_lines.Goals as goal

pub loop-at-init : goal.loop-at-init
loop-at-init c = start _ _ c.requires.1 _ c.new-filled.ensures

pub take_line-requires : goal.take_line-requires
take_line-requires c =
    let going = c.loop-at.invariant in
    ((going.book, going.kept), record { places = (c.surpluses-above.ensures, c.bounds-bounds.ensures); bits = c.widths-widths.ensures })

pub returns-in-Err : goal.returns-in-Err
returns-in-Err c = (refused_here c.loop-at.invariant c.loop-at-test.true _ c.read_at-read.ensures _ (c.take_line.ensures c.loop-at.invariant.book c.loop-at.invariant.kept) _ c.in-Err.is, c.clear.ensures)

pub overflow_add-n : goal.overflow_add-n
overflow_add-n c = omega (arith, c.loop-at.invariant.numbered, c.loop-at.invariant.within, c.requires.0)

pub loop-at-smaller : goal.loop-at-smaller
loop-at-smaller c = let r = read _ _ c.loop-at-test.true _ c.read_at-read.ensures in omega (arith, r.further, r.within)

pub loop-at-preserved : goal.loop-at-preserved
loop-at-preserved c = goes_on c.loop-at.invariant c.loop-at-test.true _ c.read_at-read.ensures _ (c.take_line.ensures c.loop-at.invariant.book c.loop-at.invariant.kept) _ c.in-Ok.is

pub returns : goal.returns
returns c = all_taken c.loop-at.invariant c.loop-at-test.false
