-- `listing::line::list_frame` meets its contract: the message that was found is listed, or is unknown. Assumes nothing.
use native.Mathlib.Omega.{arith}
use Rattle.listing.proofs.Found.{column_part, listable}
use Rattle.listing.proofs.Prints.{frame_listed, frame_unknown}
use Rattle.listing.proofs.Fits.{fitted_as}
use Rattle.listing.proofs.line.list_frame.Goals as goal

pub part-numbers-requires : goal.part-numbers-requires
part-numbers-requires c = let s = c.in-Some.ensures in (s.order, omega (arith, s.inside, c.numbers.ensures.1))

pub part-starts-requires : goal.part-starts-requires
part-starts-requires c = let s = c.in-Some.ensures in (s.order, omega (arith, s.inside, c.starts.ensures.1))

pub list_message-requires : goal.list_message-requires
list_message-requires c = listable c.args.book.now.taken c.in-Some.ensures (column_part c.in-Some.from c.in-Some.to c.part-numbers.ensures.0 c.numbers.ensures.0) (column_part c.in-Some.from c.in-Some.to c.part-starts.ensures.0 c.starts.ensures.0) c.requires

pub returns : goal.returns
returns c = fitted_as _ _ (frame_listed _ _ _ _ c.ranges.word.fits c.in-Some.ensures (column_part c.in-Some.from c.in-Some.to c.part-numbers.ensures.0 c.numbers.ensures.0) (column_part c.in-Some.from c.in-Some.to c.part-starts.ensures.0 c.starts.ensures.0)) c.list_message.ensures

pub returns-in_default : goal.returns-in_default
returns-in_default c = fitted_as _ _ (frame_unknown _ _ _ _ c.in_default.ensures) c.list_refused.ensures
