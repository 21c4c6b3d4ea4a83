-- `messages::reading::read_message` meets its contract: the word stands for the frame, and each return has its test.
-- Assumes nothing.
use mathlib.Core.Path.{◌≡◌, sym, ◌∙◌}
use mathlib.Core.Bool.{true, false}
use native.Mathlib.Omega.{arith}
use Rattle.messages.specs.Signals.{check_holds}
use Rattle.messages.proofs.Readings.{refused_check, refused_room, was_read}
use Rattle.messages.proofs.reading.read_message.Goals as goal

pub returns-then-not-checked : goal.returns-then-not-checked
returns-then-not-checked c = let a = c.args in
    let check : check_holds a.identifier a.word a.numbers.now ≡ false = sym c.checked.ensures ∙ c.if-not-checked.true in
    refused_check a.identifier a.word a.numbers.now a.starts.now (omega arith) c.requires (record { raws = a.raws.now; classes = a.classes.now; thousandths = a.thousandths.now }) check

pub returns-then-min-numbers : goal.returns-then-min-numbers
returns-then-min-numbers c = let a = c.args in
    let check : check_holds a.identifier a.word a.numbers.now ≡ true = sym c.checked.ensures ∙ c.if-not-checked.false in
    refused_room a.identifier a.word a.numbers.now a.starts.now (omega arith) c.requires (record { raws = a.raws.now; classes = a.classes.now; thousandths = a.thousandths.now }) check (omega arith)

pub read_signals-requires : goal.read_signals-requires
read_signals-requires c = record { few = c.requires.few; same = c.requires.same; fit = c.requires.fit; raw_room = omega arith; class_room = omega arith; thousandth_room = omega arith }

pub length_of-requires : goal.length_of-requires
length_of-requires c = c.requires.few

pub returns : goal.returns
returns c = let a = c.args in
    let check : check_holds a.identifier a.word a.numbers.now ≡ true = sym c.checked.ensures ∙ c.if-not-checked.false in
    was_read a.identifier a.word a.numbers.now a.starts.now (omega (arith, c.ranges.word)) c.requires (record { raws = a.raws.now; classes = a.classes.now; thousandths = a.thousandths.now }) check (omega arith) _ c.length_of.ensures _
    c.read_signals.ensures.0 c.read_signals.ensures.1 c.read_signals.ensures.2
