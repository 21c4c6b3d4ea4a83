-- `tables::adding::add_message` meets its contract: the tests that led to each `return` say which case of the refusal holds. Assumes nothing.
use Rattle.tables.proofs.Refused.{stays, takes, message_over, message_again, message_full, message_free}
use mathlib.Core.Path.{refl, sym, ◌∙◌}
use native.Mathlib.Omega.{arith}
use Rattle.tables.proofs.Held.{messages_held, signals_held}
use Rattle.tables.proofs.Stored.{message_stored_law}
use Rattle.tables.proofs.adding.add_message.Goals as goal

pub returns-then-identifier-ge-IDENTIFIER_LIMIT : goal.returns-then-identifier-ge-IDENTIFIER_LIMIT
returns-then-identifier-ge-IDENTIFIER_LIMIT c = λ b h. let e = message_over _ b h c.args.identifier _ refl c.if-identifier-ge-IDENTIFIER_LIMIT.true in stays _ _ _ _ _ (sym e) 2 e h

pub has_message-requires : goal.has_message-requires
has_message-requires c = omega (arith, c.message_count-count.ensures, messages_held _ c.requires.0 c.requires.1, c.requires.1.within.messages)

pub returns-then-has_message : goal.returns-then-has_message
returns-then-has_message c = λ b h. let e = message_again _ b h c.args.identifier c.message_count-count.result c.message_count-count.ensures c.if-identifier-ge-IDENTIFIER_LIMIT.false (sym c.has_message.ensures ∙ c.if-has_message.true) in stays _ _ _ _ _ (sym e) 4 e h

pub returns-then-count-ge-MESSAGES : goal.returns-then-count-ge-MESSAGES
returns-then-count-ge-MESSAGES c = λ b h. let e = message_full _ b h c.args.identifier c.message_count-count.result c.message_count-count.ensures c.if-identifier-ge-IDENTIFIER_LIMIT.false (sym c.has_message.ensures ∙ c.if-has_message.false) (omega (arith, c.if-count-ge-MESSAGES.true)) in stays _ _ _ _ _ (sym e) 8 e h

pub returns : goal.returns
returns c = λ b h.
    let e = message_free _ b h c.args.identifier c.message_count-count.result c.message_count-count.ensures c.if-identifier-ge-IDENTIFIER_LIMIT.false (sym c.has_message.ensures ∙ c.if-has_message.false) (omega (arith, c.if-count-ge-MESSAGES.false)) in
    let n = messages_held _ b h in
    let s = signals_held _ b h in
    let m = c.message_count-count.ensures in
    let k = c.signal_count-end.ensures in
    let w = h.words in
    let p = c.put_message.ensures in
    let stored = message_stored_law b c.args.identifier h.within (omega (arith, c.if-count-ge-MESSAGES.false, m, n)) in
    takes _ _ _ _ _ (sym e) e (cc)
