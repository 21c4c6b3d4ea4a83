-- `line_writer::put_route` meets its contract. Assumes nothing.
use native.Mathlib.Omega.{arith}
use Rattle.reading.proofs.LineLengths.{place_long, route_long}
use Rattle.line_writer.proofs.Pieces.{route_put}
use Rattle.line_writer.proofs.put_route.Goals as goal

pub put_kind-first-requires : goal.put_kind-first-requires
put_kind-first-requires c = omega (arith, c.requires.room, route_long c.args.from c.args.to c.ranges.from.fits c.ranges.to.fits)

pub put_place-after_first-requires : goal.put_place-after_first-requires
put_place-after_first-requires c = omega (arith, c.requires.room, route_long c.args.from c.args.to c.ranges.from.fits c.ranges.to.fits, c.put_kind-first.ensures.now_at)

pub put_byte-second-requires : goal.put_byte-second-requires
put_byte-second-requires c = omega (arith, c.requires.room, route_long c.args.from c.args.to c.ranges.from.fits c.ranges.to.fits, c.put_kind-first.ensures.now_at, c.put_place-after_first.ensures.now_at, place_long c.args.from c.ranges.from.fits, place_long c.args.to c.ranges.to.fits)

pub put_place-end-requires : goal.put_place-end-requires
put_place-end-requires c = omega (arith, c.requires.room, route_long c.args.from c.args.to c.ranges.from.fits c.ranges.to.fits, c.put_kind-first.ensures.now_at, c.put_place-after_first.ensures.now_at, place_long c.args.from c.ranges.from.fits, place_long c.args.to c.ranges.to.fits, c.put_byte-second.ensures.now_at)

pub put_byte-requires : goal.put_byte-requires
put_byte-requires c = omega (arith, c.requires.room, route_long c.args.from c.args.to c.ranges.from.fits c.ranges.to.fits, c.put_kind-first.ensures.now_at, c.put_place-after_first.ensures.now_at, place_long c.args.from c.ranges.from.fits, c.put_byte-second.ensures.now_at, c.put_place-end.ensures.now_at, place_long c.args.to c.ranges.to.fits)

pub returns : goal.returns
returns c = route_put _ _ c.put_kind-first.ensures c.put_place-after_first.ensures c.put_byte-second.ensures c.put_place-end.ensures c.put_byte.ensures
