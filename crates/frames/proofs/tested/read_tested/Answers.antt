-- `frames::tested::read_tested` meets its contract: the bytes of the word are the frame.
-- Assumes nothing.
use Prim.Native.Nat.{ℕ, ◌<◌}
use lib.ListN.{get_or}
use Rattle.books.specs.Words.{messages_of}
use Rattle.frames.proofs.Entries.{read_short, read_eight}
use Rattle.frames.proofs.tested.read_tested.Goals as goal

pub returns-then-frame-ne-FRAME_BYTES : goal.returns-then-frame-ne-FRAME_BYTES
returns-then-frame-ne-FRAME_BYTES c = let a = c.args in
    read_short (messages_of a.book.now.words.now) a.identifier a.frame.now (record { raws = a.raws.now; classes = a.classes.now; thousandths = a.thousandths.now }) c.if-frame-ne-FRAME_BYTES.true

pub returns : goal.returns
returns c = let a = c.args in
    let small : (k : ℕ) → get_or a.frame.now k 0 < 256 = λ k. (c.shared_slice_known-1.given k).fits in
    read_eight (messages_of a.book.now.words.now) a.identifier a.frame.now (record { raws = a.raws.now; classes = a.classes.now; thousandths = a.thousandths.now }) c.if-frame-ne-FRAME_BYTES.false small c.load.result c.load.ensures _ c.read_word.ensures
