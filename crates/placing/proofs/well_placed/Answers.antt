-- `placing::well_placed` meets its contract: the answer for the signals from `at` on is the answer for all, those before it stand alone, fill what is held, and have the stamp on their places unless they have a start of their own. Assumes nothing.
use mathlib.Core.Path.{◌≡◌, refl, sym, ◌∙◌}
use mathlib.Core.List.{List}
use Prim.Native.Nat.{ℕ, ◌-◌, ◌<◌}
use native.Mathlib.Omega.{arith}
use lib.ListN.{length, get_or}
use Rattle.catalogue.specs.Find.{bits_of_spec}
use Rattle.catalogue.proofs.LastStarts.{in_lasts, its_last}
use Rattle.placing.proofs.Signals.{Turn, begin, end, refuse_unknown, refuse_over, refuse_meeting, refuse_again, next_other, next_fixed}
use Rattle.placing.proofs.well_placed.Goals as goal
use Rattle.placing.proofs.well_placed.Goals.{After-from-last, then-stamps-place, else-stamps-place+else-not-has_fixed_start}

-- the signal of this turn
turn : {ns ss : List ℕ} {at : ℕ} → at < length ns → Turn ns ss at (get_or ns at 0) (get_or ss at 0)
turn h = record { within = h; number = refl; start = refl }

-- its last start
last : (c : After-from-last) → (c.from-last.result < 64) × (64 - c.from-last.result ≡ bits_of_spec (get_or c.args.numbers.now c.loop-at.at 0))
last c = its_last _ _ _ c.requires.1.lasts c.in-Some.ensures _ c.from-last.ensures

pub loop-at-init : goal.loop-at-init
loop-at-init c = begin _ _ _ _ c.requires.2

pub returns-in_default : goal.returns-in_default
returns-in_default c = refuse_unknown _ _ _ _ _ _ _ c.requires.0 c.loop-at.invariant _ _ (turn c.loop-at-test.true) c.in_default.ensures

pub bounds-lasts-place : goal.bounds-lasts-place
bounds-lasts-place c = in_lasts _ _ _ c.requires.1.lasts c.in-Some.ensures

pub returns-then-start-last : goal.returns-then-start-last
returns-then-start-last c =
    refuse_over _ _ _ _ _ _ _ c.requires.0 c.loop-at.invariant _ _ (turn c.loop-at-test.true) _ c.in-Some.ensures _
    (last (goal.at.returns-then-start-last c).After-from-last) c.if-start-last.true

pub run_up_to-here-requires : goal.run_up_to-here-requires
run_up_to-here-requires c = (c.if-start-last.false, (last (goal.at.run_up_to-here-requires c).After-from-last).0)

pub returns-then-meet : goal.returns-then-meet
returns-then-meet c =
    refuse_meeting _ _ _ _ _ _ _ c.requires.0 c.loop-at.invariant _ _ (turn c.loop-at-test.true) _ c.in-Some.ensures _
    (last (goal.at.returns-then-meet c).After-from-last) c.if-start-last.false _ c.run_up_to-here.ensures (sym c.meet.ensures ∙ c.if-meet.true)

pub returns-then-not-has_fixed_start : goal.returns-then-not-has_fixed_start
returns-then-not-has_fixed_start c =
    refuse_again _ _ _ _ _ _ _ c.requires.0 c.loop-at.invariant _ _ (turn c.loop-at-test.true) _ c.in-Some.ensures _
    (last (goal.at.returns-then-not-has_fixed_start c).After-from-last) c.if-start-last.false (omega (arith, c.if-stamps-place.false))
    (sym c.has_fixed_start.ensures ∙ c.if-not-has_fixed_start.true)

pub loop-at-preserved : goal.loop-at-preserved
loop-at-preserved c =
    elim c.if-stamps-place.branch [
      | then-stamps-place w ↦ next_other _ _ _ _ _ _ _ c.requires.0 c.loop-at.invariant _ _ (turn c.loop-at-test.true) _ c.in-Some.ensures _ (last (goal.at.loop-at-preserved c).After-from-last) c.if-start-last.false _ c.run_up_to-here.ensures (sym c.meet.ensures ∙ c.if-meet.false) _ c.either-filled.ensures _ (omega (arith, c.ranges.stamp.fits)) w.if-stamps-place.true w.stamps-is
      | else-stamps-place+else-not-has_fixed_start w ↦ next_fixed _ _ _ _ _ _ _ c.requires.0 c.loop-at.invariant _ _ (turn c.loop-at-test.true) _ c.in-Some.ensures _ (last (goal.at.loop-at-preserved c).After-from-last) c.if-start-last.false _ c.run_up_to-here.ensures (sym c.meet.ensures ∙ c.if-meet.false) _ c.either-filled.ensures _ (sym w.has_fixed_start.ensures ∙ w.if-not-has_fixed_start.false) w.stamps-is
    ]

pub returns : goal.returns
returns c = end _ _ _ _ _ _ _ c.requires.0 c.loop-at.invariant c.loop-at-test.false
