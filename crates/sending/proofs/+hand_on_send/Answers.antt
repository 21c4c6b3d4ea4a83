-- `sending::send` and `sending::hand_on` meet their contracts. Assumes nothing.
use mathlib.Core.Path.{sym, ◌∙◌, subst₂}
use native.Mathlib.Omega.{arith}
use lib.ListN.{length, get_or}
use Prim.Native.Nat.{◌+◌, ◌*◌, ◌<◌}
use Rattle.record.specs.Columns.{route_count_of}
use Rattle.record.specs.Limits.{route_limit}
use Rattle.chains.proofs.Longest.{longest_from, longest_falls}
use Rattle.sending.specs.Writing.{live_froms, live_tos}
use Rattle.sending.proofs.Steps.{Going, going_start, going_skip, going_space, going_take, going_end}
use Rattle.sending.proofs.+hand_on_send.Goals as goal
use Rattle.sending.proofs.+hand_on_send.Goals.{send-then-from_of-place, send-else-from_of-place}

pub send-loop-i-init : goal.send-loop-i-init
send-loop-i-init t c = going_start _ _ _ _ _ c.requires.free

pub send-hand_on-next-requires : goal.send-hand_on-next-requires
send-hand_on-next-requires t c =
    let a = c.loop-i in
    let w = c.args.book.now in
    let counted : a.i < route_count_of w = omega (arith, c.loop-i-test.true, c.route_count-count.ensures) in
    let lt : a.i < length (live_froms w) = omega (arith, counted, c.requires.whole) in
    let e = sym c.from_of.ensures ∙ c.if-from_of-place.true in
    let f = longest_falls (live_froms w) (live_tos w) c.requires.free a.i c.args.place lt e in
    let h : 2 * longest_from (live_froms w) (live_tos w) (get_or (live_tos w) a.i 0) + 1 < t = omega (arith, c.decreases, f) in (
      h,
      (
        counted,
        record {
          few = c.requires.few;
          whole = c.requires.whole;
          free = c.requires.free;
          space = going_space _ _ _ _ _ a.i a.room a.next a.invariant lt e route_limit c.requires.space;
        },
      ),
    )

pub send-loop-i-preserved : goal.send-loop-i-preserved
send-loop-i-preserved t c =
    let a = c.loop-i in
    let w = c.args.book.now in
    let lt : a.i < length (live_froms w) = omega (arith, c.loop-i-test.true, c.route_count-count.ensures, c.requires.whole) in
    let goes = Going (live_froms w) (live_tos w) c.args.place c.args.room.now c.args.at (a.i + 1) in
    elim c.if-from_of-place.branch [
      | send-then-from_of-place v ↦ subst₂ goes (sym v.room-is) (sym v.next-is) (going_take _ _ _ _ _ a.i a.room a.next a.invariant lt (sym c.from_of.ensures ∙ v.if-from_of-place.true) _ _ v.hand_on-next.ensures)
      | send-else-from_of-place v ↦ subst₂ goes (sym v.room-is) (sym v.next-is) (going_skip _ _ _ _ _ a.i a.room a.next a.invariant lt (λ e. v.if-from_of-place.false (c.from_of.ensures ∙ e)))
    ]

pub send-returns : goal.send-returns
send-returns t c = going_end _ _ _ _ _ c.loop-i.i c.loop-i.room c.loop-i.next c.loop-i.invariant (omega (arith, c.loop-i-test.false, c.route_count-count.ensures, c.requires.whole))
