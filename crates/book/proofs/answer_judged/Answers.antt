-- `book::answer_judged` meets its contract: the verdict on the routes says which answer it is. Assumes nothing.
use Rattle.book.proofs.Answers.{closed, doubled, sound}
use Rattle.book.proofs.answer_judged.Goals as goal

pub route_line-requires : goal.route_line-requires
route_line-requires c = c.requires.short

pub route_line-requires-in-Doubling : goal.route_line-requires-in-Doubling
route_line-requires-in-Doubling c = c.requires.short

pub returns-in-Loop : goal.returns-in-Loop
returns-in-Loop c = closed c.requires _ _ c.route_line.ensures c.clear.ensures c.in-Loop.is

pub returns-in-Doubling : goal.returns-in-Doubling
returns-in-Doubling c = doubled c.requires _ _ c.route_line-in-Doubling.ensures c.clear-in-Doubling.ensures c.in-Doubling.is

pub returns-in-Sound : goal.returns-in-Sound
returns-in-Sound c = sound c.requires c.in-Sound.is c.message_count.ensures c.signal_count.ensures c.route_count.ensures
