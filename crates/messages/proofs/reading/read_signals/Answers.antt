-- `messages::reading::read_signals` meets its contract: at each turn, writing what is left gives the final lists.
-- Assumes nothing.
use mathlib.Core.Path.{refl, ap, ◌∙◌}
use Prim.Native.Nat.{◌<◌}
use native.Mathlib.Omega.{arith}
use lib.ListN.{length}
use mir.Syntax.{w64}
use mir.ValLaws.{to_z-of_z}
use borrow.Author.Rules.{rules}
use Rattle.framing.specs.Reading.{class_code, thousandths_of_spec}
use Rattle.messages.specs.Signals.{raw_in, code_in, reading_in}
use Rattle.messages.proofs.Cuts.{count_there, class_there, its_reading, its_count, its_code}
use Rattle.messages.proofs.Steps.{placement_at, fits_at, fits_on, write_more, write_none, write_length}
use Rattle.messages.proofs.reading.read_signals.Goals as goal

pub loop-at-init : goal.loop-at-init
loop-at-init c = record { fit = c.requires.fit; in-raws = refl; in-classes = refl; in_thousandths = refl }

pub bounds-starts-i : goal.bounds-starts-i
bounds-starts-i c = omega (arith, c.requires.same)

pub window-window-requires : goal.window-window-requires
window-window-requires c =
    let f = fits_at c.args.numbers.now c.args.starts.now c.loop-at.at (omega (arith, c.loop-at-test.true, c.length_of-at-end.ensures)) c.requires.same c.loop-at.invariant.fit in
    omega (arith, f.some, f.inside)

pub bounds-raws-i : goal.bounds-raws-i
bounds-raws-i c = omega (arith, c.requires.raw_room, write_length (raw_in c.args.word) c.args.raws.now c.args.numbers.now c.args.starts.now c.loop-at.raws c.loop-at.at c.loop-at.invariant.in-raws)

pub bounds-classes-i : goal.bounds-classes-i
bounds-classes-i c = omega (arith, c.requires.class_room, write_length (code_in c.args.word) c.args.classes.now c.args.numbers.now c.args.starts.now c.loop-at.classes c.loop-at.at c.loop-at.invariant.in-classes)

pub bounds-thousandths-i : goal.bounds-thousandths-i
bounds-thousandths-i c = omega (arith, c.requires.thousandth_room, write_length (reading_in c.args.word) c.args.thousandths.now c.args.numbers.now c.args.starts.now c.loop-at.thousandths c.loop-at.at c.loop-at.invariant.in_thousandths)

pub loop-at-preserved : goal.loop-at-preserved
loop-at-preserved c = let a = c.args in
    let l = c.loop-at in
    let ns = a.numbers.now in
    let ss = a.starts.now in
    let h : l.at < length ns = (omega (arith, c.loop-at-test.true, c.length_of-at-end.ensures)) in
    let e = c.requires.same in
    let p = placement_at ns ss l.at in
    let f = fits_at ns ss l.at h e l.invariant.fit in
    let there = c.window-window.ensures in
    let cut = c.cut_numbers-reading.ensures in
    let raw = its_count cut ∙ count_there a.word p f _ there in
    let class = class_there a.word p f _ there in
    let code = its_code cut ∙ ap class_code class in
    let reading = to_z-of_z w64 c.cut_numbers-reading.result (search rules) ∙ its_reading cut ∙ ap thousandths_of_spec class in
    record {
      fit = fits_on ns ss l.at h e l.invariant.fit;
      in-raws = write_more (raw_in a.word) a.raws.now ns ss l.raws l.at _ h e raw l.invariant.in-raws;
      in-classes = write_more (code_in a.word) a.classes.now ns ss l.classes l.at _ h e code l.invariant.in-classes;
      in_thousandths = write_more (reading_in a.word) a.thousandths.now ns ss l.thousandths l.at _ h e reading l.invariant.in_thousandths;
    }

pub shape_of-raws : goal.shape_of-raws
shape_of-raws c = write_length (raw_in c.args.word) c.args.raws.now c.args.numbers.now c.args.starts.now c.loop-at.raws c.loop-at.at c.loop-at.invariant.in-raws

pub shape_of-classes : goal.shape_of-classes
shape_of-classes c = write_length (code_in c.args.word) c.args.classes.now c.args.numbers.now c.args.starts.now c.loop-at.classes c.loop-at.at c.loop-at.invariant.in-classes

pub shape_of-thousandths : goal.shape_of-thousandths
shape_of-thousandths c = write_length (reading_in c.args.word) c.args.thousandths.now c.args.numbers.now c.args.starts.now c.loop-at.thousandths c.loop-at.at c.loop-at.invariant.in_thousandths

pub returns : goal.returns
returns c = (
  write_none (raw_in c.args.word) c.args.raws.now c.args.numbers.now c.args.starts.now c.loop-at.raws c.loop-at.at (omega (arith, c.loop-at-test.false, c.length_of-at-end.ensures)) c.loop-at.invariant.in-raws,
  write_none (code_in c.args.word) c.args.classes.now c.args.numbers.now c.args.starts.now c.loop-at.classes c.loop-at.at (omega (arith, c.loop-at-test.false, c.length_of-at-end.ensures)) c.loop-at.invariant.in-classes,
  write_none (reading_in c.args.word) c.args.thousandths.now c.args.numbers.now c.args.starts.now c.loop-at.thousandths c.loop-at.at (omega (arith, c.loop-at-test.false, c.length_of-at-end.ensures)) c.loop-at.invariant.in_thousandths,
)
