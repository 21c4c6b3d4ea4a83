-- `frames::tested::read_word` meets its contract: the parts of the columns that were found are the message of the identifier.
-- Assumes nothing.
use Rattle.bits.specs.Word.{bytes_of}
use Rattle.books.specs.Words.{messages_of}
use Rattle.frames.proofs.Entries.{found, readable, read_unknown, read_known}
use Rattle.frames.proofs.tested.read_word.Goals as goal

pub read_message-requires : goal.read_message-requires
read_message-requires c = readable _ _ _ _ c.in-Some.ensures _ _ c.numbers-numbers.ensures.0 c.starts-starts.ensures.0

pub returns-in_default : goal.returns-in_default
returns-in_default c = let a = c.args in
    read_unknown (messages_of a.book.now.words.now) a.identifier (bytes_of a.word) (record { raws = a.raws.now; classes = a.classes.now; thousandths = a.thousandths.now }) c.in_default.ensures

pub returns : goal.returns
returns c = let a = c.args in
    read_known (messages_of a.book.now.words.now) a.identifier (bytes_of a.word) (record { raws = a.raws.now; classes = a.classes.now; thousandths = a.thousandths.now }) _
    (found _ _ _ _ c.in-Some.ensures _ _ c.numbers-numbers.ensures.0 c.starts-starts.ensures.0) _ c.read_message.ensures
