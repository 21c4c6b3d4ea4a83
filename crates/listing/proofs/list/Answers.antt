-- `listing::list` meets its contract: the test of the book decides. Assumes nothing.
use mathlib.Core.Path.{refl, sym, ◌∙◌}
use Rattle.listing.specs.Listing.{listing}
use Rattle.listing.proofs.list.Goals as goal

pub returns-then-not-messages_taken : goal.returns-then-not-messages_taken
unfolding listing
returns-then-not-messages_taken c = rw (sym c.messages_taken.ensures ∙ c.if-not-messages_taken.true) refl

pub returns : goal.returns
unfolding listing
returns c = rw (sym c.messages_taken.ensures ∙ c.if-not-messages_taken.false) c.list_lines.ensures
