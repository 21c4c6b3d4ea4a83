-- `listing::message::put_signals` meets its contract: writing what is left gives the final list. Assumes nothing.
use mathlib.Core.Path.{ap, ◌∙◌, subst⁻¹}
use native.Mathlib.Omega.{arith}
use Rattle.catalogue.specs.declared.Cut.{Cut}
use Rattle.doubles.specs.Doubles.{SmallIfValue}
use Rattle.doubles.proofs.Values.{small_class}
use Rattle.messages.proofs.Cuts.{class_there}
use Rattle.listing.proofs.Walking.{none_walked, signal_walked, all_walked, room_left, fits_next}
use Rattle.listing.proofs.message.put_signals.Goals as goal

pub loop-i-init : goal.loop-i-init
loop-i-init c = none_walked _ _ _ _ _ _ _ c.requires

pub window-requires : goal.window-requires
window-requires c =
    let f = fits_next c.loop-i.invariant c.requires c.loop-i-test.true in
    omega (arith, f.some, f.inside)

pub put_reading-next-requires : goal.put_reading-next-requires
put_reading-next-requires c =
    let w = c.loop-i.invariant in
    let r = c.requires in
    let h = c.loop-i-test.true in
    let class = ap (λ (k : Cut). k.class) c.cut_of-cut.ensures ∙ class_there _ _ (fits_next w r h) _ c.window.ensures in
    (room_left w r h, subst⁻¹ SmallIfValue class (small_class _ _))

pub loop-i-preserved : goal.loop-i-preserved
loop-i-preserved c =
    let w = c.loop-i.invariant in
    let r = c.requires in
    let h = c.loop-i-test.true in
    let class = ap (λ (k : Cut). k.class) c.cut_of-cut.ensures ∙ class_there _ _ (fits_next w r h) _ c.window.ensures in
    signal_walked w r h class c.put_reading-next.ensures

pub shape_of-out : goal.shape_of-out
shape_of-out c = c.loop-i.invariant.size

pub returns : goal.returns
returns c = all_walked c.loop-i.invariant c.loop-i-test.false
