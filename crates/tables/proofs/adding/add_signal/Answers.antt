-- `tables::adding::add_signal` meets its contract: where the line is taken its words are stored, and else the words stay. Assumes nothing.
use mathlib.Core.Path.{◌≡◌, sym, ◌∙◌}
use native.Mathlib.Omega.{arith}
use Rattle.std.proofs.lemmas.Result.{err_from_is_err_and}
use Rattle.answers.proofs.Numbered.{above_0}
use Rattle.books.specs.Book.{placement}
use Rattle.books.specs.Lines.{signal_refusal}
use Rattle.placing.proofs.Placing.{alone_room}
use Rattle.tables.proofs.Held.{messages_held, signals_held}
use Rattle.tables.proofs.Stored.{signal_stored_law}
use Rattle.tables.proofs.Room.{SignalRoom, signal_room}
use Rattle.tables.proofs.Kept.{fills_signal, signal_stays, signal_takes}
use Rattle.tables.proofs.adding.add_signal.Goals as goal
use Rattle.tables.proofs.adding.add_signal.Goals.{In_ok-judge_signal}

-- the line is taken after a book that the words are those of: it has room
room : (c : In_ok-judge_signal) → SignalRoom c.requires.0.0.messages (placement c.args.number c.args.start)
room c = signal_room _ _ (sym (c.in_ok-judge_signal.ensures c.requires.0.0 c.requires.0.1))

pub returns-in_err-judge_signal : goal.returns-in_err-judge_signal
returns-in_err-judge_signal c = λ b k.
    let p = err_from_is_err_and c.from_residual.result c.from_residual.ensures.1 in
    let e = c.in_err-judge_signal.ensures b k in
    let n = above_0 c.in_err-judge_signal.field-0.0 in
    rw (p.1, p.2) (signal_stays b _ _ _ n.0 e (sym e ∙ n.1) k.holds)

pub put_signal-requires : goal.put_signal-requires
put_signal-requires c =
    let b = c.requires.0.0 in
    let h = c.requires.0.1.holds in
    let r = room (goal.at.put_signal-requires c).In_ok-judge_signal in
    (omega (arith, c.message_count-messages.ensures, messages_held _ b h, r.some), omega (arith, c.message_count-messages.ensures, messages_held _ b h, h.within.messages), omega (arith, c.signal_count-signals.ensures, signals_held _ b h, r.room))

pub with_signal-requires : goal.with_signal-requires
with_signal-requires c = alone_room _ _ _ c.bits_at-bits.ensures (room (goal.at.with_signal-requires c).In_ok-judge_signal).alone

pub returns : goal.returns
returns c = λ b k.
    let h = k.holds in
    let p = placement c.args.number c.args.start in
    let taken : signal_refusal b.messages p ≡ 0 = sym (c.in_ok-judge_signal.ensures b k) in
    let r = signal_room b.messages p taken in
    let messages = c.message_count-messages.ensures ∙ messages_held _ b h in
    let signals = c.signal_count-signals.ensures ∙ signals_held _ b h in
    let stored = signal_stored_law b.messages b.routes p h.within r.some r.room in
    signal_takes b p _ _ taken (rw (c.put_signal.ensures, messages, signals, h.words) stored) (fills_signal b.messages p taken c.args.filled k.fills _ c.bits_at-bits.ensures _ c.with_signal.ensures)
