-- `book_writer::lines::put_message_lines` meets its contract: each turn writes the next message, and the others are left. Assumes nothing.
use mathlib.Core.Logic.{inl}
use native.Mathlib.Omega.{arith}
use lib.ListN.{drop_of_length-le}
use Rattle.book_writer.proofs.Pairs.{both_from}
use Rattle.book_writer.proofs.Messages.{messages_left, columns_level, next_message, all_messages, message_fit, signals_fit, message_written}
use Rattle.book_writer.proofs.lines.put_message_lines.Goals as goal

pub loop-i-init : goal.loop-i-init
loop-i-init c = messages_left _ c.requires c.ids-ids.ensures c.ends-ends.ensures c.signals-signals.ensures.numbers c.signals-signals.ensures.starts

pub bounds-ends-i : goal.bounds-ends-i
bounds-ends-i c = omega (arith, c.loop-i-test.true, columns_level _ c.ids-ids.ensures c.ends-ends.ensures)

pub put_message-after_message-requires : goal.put_message-after_message-requires
put_message-after_message-requires c =
    message_fit (next_message (both_from _ _ _ (columns_level _ c.ids-ids.ensures c.ends-ends.ensures) c.loop-i-test.true) c.loop-i.invariant)

pub part-requires : goal.part-requires
part-requires c =
    let x = next_message (both_from _ _ _ (columns_level _ c.ids-ids.ensures c.ends-ends.ensures) c.loop-i-test.true) c.loop-i.invariant in
    (omega (arith, x.end_is), omega (arith, x.end_is, x.fits))

pub put_lines-next-requires : goal.put_lines-next-requires
put_lines-next-requires c =
    let x = next_message (both_from _ _ _ (columns_level _ c.ids-ids.ensures c.ends-ends.ensures) c.loop-i-test.true) c.loop-i.invariant in
    signals_fit x c.part.ensures.firsts c.part.ensures.seconds (omega (arith, x.end_is)) c.put_message-after_message.ensures

pub loop-i-preserved : goal.loop-i-preserved
loop-i-preserved c =
    let x = next_message (both_from _ _ _ (columns_level _ c.ids-ids.ensures c.ends-ends.ensures) c.loop-i-test.true) c.loop-i.invariant in
    message_written x c.part.ensures.firsts c.part.ensures.seconds c.put_message-after_message.ensures c.put_lines-next.ensures

pub returns : goal.returns
returns c = all_messages (inl (drop_of_length-le _ c.loop-i-test.false)) c.loop-i.invariant
