-- `routes::spread_tested` meets its contract: each test that led to a refusal is that refusal's own, in the order of their numbers, and what is copied is the
-- spread. Assumes nothing.
use mathlib.Core.Path.{refl}
use Prim.Native.Nat.{ℕ}
use native.Mathlib.Omega.{arith}
use lib.ListN.{length-take}
use Rattle.routes.specs.Answers.{no_place}
use Rattle.routes.proofs.Front.{copied_more, copied_all}
use Rattle.routes.proofs.Gathering.{ready, enough, too_small, written}
use Rattle.routes.proofs.spread_tested.Goals as goal

pub returns-then-bus-ge-BUSES : goal.returns-then-bus-ge-BUSES
returns-then-bus-ge-BUSES c = no_place (λ p. omega (arith, p.on_bus, c.if-bus-ge-BUSES.true))

pub returns-then-identifier-ge-IDENTIFIER_LIMIT : goal.returns-then-identifier-ge-IDENTIFIER_LIMIT
returns-then-identifier-ge-IDENTIFIER_LIMIT c = no_place (λ p. omega (arith, p.identified, c.if-identifier-ge-IDENTIFIER_LIMIT.true))

pub send-written-requires : goal.send-written-requires
send-written-requires c = ready _ c.requires _

pub returns-then-count-room : goal.returns-then-count-room
returns-then-count-room c = too_small _ c.requires _ _ _ c.place.ensures _ _ c.send-written.ensures (record { on_bus = omega (arith, c.if-bus-ge-BUSES.false); identified = omega (arith, c.if-identifier-ge-IDENTIFIER_LIMIT.false) }) _ (omega (arith, c.if-count-room.true))

pub slice_bounds-places-end : goal.slice_bounds-places-end
slice_bounds-places-end c = omega (arith, enough _ c.requires _ _ _ c.place.ensures _ _ c.send-written.ensures, c.send-written.array_long)

pub slice_bounds-entry-items-end : goal.slice_bounds-entry-items-end
slice_bounds-entry-items-end c = omega (arith, enough _ c.requires _ _ _ c.place.ensures _ _ c.send-written.ensures, c.send-written.array_long, length-take {A = ℕ})

pub loop-i-init : goal.loop-i-init
loop-i-init c = record { within = omega arith; long = refl; front = refl }

pub loop-i-preserved : goal.loop-i-preserved
loop-i-preserved c = copied_more _ _ _ _ _ c.loop-i.invariant c.loop-i-test.true (omega arith) (omega (arith, c.if-count-room.false, length-take {A = ℕ}))

pub returns : goal.returns
returns c =
    let copied = copied_all _ _ c.send-written.result _ _ c.loop-i.invariant c.loop-i-test.false (omega (arith, enough _ c.requires _ _ _ c.place.ensures _ _ c.send-written.ensures, c.send-written.array_long, length-take {A = ℕ})) in
    written _ c.requires _ _ _ c.place.ensures _ _ c.send-written.ensures (record { on_bus = omega (arith, c.if-bus-ge-BUSES.false); identified = omega (arith, c.if-identifier-ge-IDENTIFIER_LIMIT.false) }) _ (omega (arith, c.if-count-room.false)) _ copied
