-- `frames::tested::pack_tested` meets its contract: the parts of the columns that were found are the message of the identifier.
-- Assumes nothing.
use mathlib.Core.Path.{sym, ◌∙◌}
use Rattle.books.specs.Words.{messages_of}
use Rattle.books.proofs.Columns.{taken_stands}
use Rattle.frames.proofs.Entries.{found, packable, many, pack_unknown, pack_count, pack_short, pack_known}
use Rattle.frames.proofs.tested.pack_tested.Goals as goal

pub returns-in_default : goal.returns-in_default
returns-in_default c = let a = c.args in
    pack_unknown (messages_of a.book.now.words.now) a.identifier a.values.now a.frame.now c.in_default.ensures

pub returns-then-values-to : goal.returns-then-values-to
returns-then-values-to c = let a = c.args in
    let s = c.in-Some.ensures in
    pack_count (messages_of a.book.now.words.now) a.identifier a.values.now a.frame.now _ s.found (λ e. c.if-values-to.true (e ∙ s.many))

pub returns-then-frame-ne-FRAME_BYTES : goal.returns-then-frame-ne-FRAME_BYTES
returns-then-frame-ne-FRAME_BYTES c = let a = c.args in
    let s = c.in-Some.ensures in
    pack_short (messages_of a.book.now.words.now) a.identifier a.values.now a.frame.now _ s.found (c.if-values-to.false ∙ sym s.many) c.if-frame-ne-FRAME_BYTES.true

pub pack_message-requires : goal.pack_message-requires
pack_message-requires c = (packable _ _ _ _ c.in-Some.ensures _ _ c.numbers-numbers.ensures.0 c.starts-starts.ensures.0 c.args.values.now c.if-values-to.false, c.if-frame-ne-FRAME_BYTES.false)

pub returns : goal.returns
returns c = let a = c.args in
    let s = c.in-Some.ensures in
    pack_known (messages_of a.book.now.words.now) a.identifier a.values.now a.frame.now _
    (found _ _ _ _ s _ _ c.numbers-numbers.ensures.0 c.starts-starts.ensures.0)
    (taken_stands a.book.now.words.now c.args.book.now.taken).1
    (c.if-values-to.false ∙ sym (many _ _ _ _ s _ _ c.numbers-numbers.ensures.0 c.starts-starts.ensures.0)) c.if-frame-ne-FRAME_BYTES.false _ c.pack_message.ensures
