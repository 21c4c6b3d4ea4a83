-- `catalogue::places::place_of` meets its contract: what it computes is the signal's place. Assumes nothing.
use Rattle.catalogue.proofs.Placed.{place_above, past_it, there}
use Rattle.catalogue.proofs.places.place_of.Goals as goal

pub returns-then-number-ge-NUMBER_LIMIT : goal.returns-then-number-ge-NUMBER_LIMIT
returns-then-number-ge-NUMBER_LIMIT c = place_above _ c.if-number-ge-NUMBER_LIMIT.true

pub returns-then-place-from : goal.returns-then-place-from
returns-then-place-from c = past_it _ _ _ c.requires.0 c.if-number-ge-NUMBER_LIMIT.false c.hundred_of-hundred.ensures _ c.requires.1 _ c.from.ensures c.if-place-from.true

pub returns : goal.returns
returns c = there _ _ _ c.requires.0 c.if-number-ge-NUMBER_LIMIT.false c.hundred_of-hundred.ensures _ c.requires.1 _ c.from.ensures c.if-place-from.false
