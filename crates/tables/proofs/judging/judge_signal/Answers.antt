-- `tables::judging::judge_signal` meets its contract: the tests that led to each `return` say which case of the refusal holds. Assumes nothing.
use mathlib.Core.Path.{sym, ◌∙◌}
use native.Mathlib.Nat.{pos_of_ne-zero}
use native.Mathlib.Omega.{arith}
use Rattle.catalogue.proofs.Found.{few_bits}
use Rattle.books.specs.Book.{last_placements, placement}
use Rattle.placing.proofs.Placing.{unknown, over, known}
use Rattle.tables.proofs.Held.{messages_held, signals_held, last_in, last_held}
use Rattle.tables.proofs.Refused.{signal_unknown, signal_early, signal_later}
use Rattle.tables.proofs.judging.judge_signal.Goals as goal

pub returns-then-bits-eq0 : goal.returns-then-bits-eq0
returns-then-bits-eq0 c = λ b h. sym (signal_unknown b.messages _ (unknown c.args.number c.args.start (sym c.requires.1 ∙ c.if-bits-eq0.true)))

pub returns-then-start-ge-START_LIMIT : goal.returns-then-start-ge-START_LIMIT
returns-then-start-ge-START_LIMIT c = λ b h. sym (signal_unknown b.messages _ (over c.args.number c.args.start c.if-start-ge-START_LIMIT.true))

pub returns-then-messages-eq0 : goal.returns-then-messages-eq0
returns-then-messages-eq0 c = λ b h. sym (signal_early b.messages _ (known c.args.number c.args.start (λ z. c.if-bits-eq0.false (c.requires.1 ∙ z)) c.if-start-ge-START_LIMIT.false) (sym (messages_held _ b h.holds) ∙ sym c.message_count-messages.ensures ∙ c.if-messages-eq0.true))

pub last_begin-first-requires : goal.last_begin-first-requires
last_begin-first-requires c = (pos_of_ne-zero c.if-messages-eq0.false, omega (arith, c.message_count-messages.ensures, messages_held _ c.requires.0.0 c.requires.0.1.holds, c.requires.0.1.holds.within.messages))

pub part-before-requires : goal.part-before-requires
part-before-requires c = (last_in _ c.requires.0.0 c.requires.0.1.holds c.message_count-messages.result c.signal_count-end.result c.last_begin-first.result c.message_count-messages.ensures c.signal_count-end.ensures c.last_begin-first.ensures (pos_of_ne-zero c.if-messages-eq0.false), omega (arith, c.numbers.ensures.1, c.signal_count-end.ensures, signals_held _ c.requires.0.0 c.requires.0.1.holds, c.requires.0.1.holds.within.signals))

pub judge_after-requires : goal.judge_after-requires
judge_after-requires c =
    let held = last_held _ c.requires.0.0 c.requires.0.1.holds c.message_count-messages.result c.signal_count-end.result c.last_begin-first.result c.message_count-messages.ensures c.signal_count-end.ensures c.last_begin-first.ensures (pos_of_ne-zero c.if-messages-eq0.false) in
    ((last_placements c.requires.0.0.messages, record { listed = rw (c.part-before.ensures.0, c.numbers.ensures.0) held; fills = c.requires.0.1.fills }), c.if-start-ge-START_LIMIT.false, pos_of_ne-zero c.if-bits-eq0.false, omega (arith, c.requires.1, few_bits c.args.number), c.requires.1)

pub returns : goal.returns
returns c = λ b h.
    let held = last_held _ b h.holds c.message_count-messages.result c.signal_count-end.result c.last_begin-first.result c.message_count-messages.ensures c.signal_count-end.ensures c.last_begin-first.ensures (pos_of_ne-zero c.if-messages-eq0.false) in
    let judged = c.judge_after.ensures (last_placements b.messages) (record { listed = rw (c.part-before.ensures.0, c.numbers.ensures.0) held; fills = h.fills }) in
    let all = c.signal_count-end.ensures ∙ signals_held _ b h.holds in
    let fits = known c.args.number c.args.start (λ z. c.if-bits-eq0.false (c.requires.1 ∙ z)) c.if-start-ge-START_LIMIT.false in
    let later = signal_later b.messages (placement c.args.number c.args.start) fits (λ z. c.if-messages-eq0.false (c.message_count-messages.ensures ∙ messages_held _ b h.holds ∙ z)) in
    cc
