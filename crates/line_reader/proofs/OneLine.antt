-- A reader that has read has passed exactly one line of its text, the one that it has read; at the text's end it stays where it is.
-- Assumes nothing.
use mathlib.Core.Path.{◌≡◌, sym}
use Prim.Native.Nat.{◌≤◌, ◌<◌}
use lib.ListN.{length}
use Rattle.line.specs.declared.Line.TheVariants.{IllFormed}
use Rattle.line.specs.LineAt.{read_line, line_at, PassesLine}
use Rattle.line.proofs.Firsts.{passes_line, no_line}
use Rattle.line_reader.specs.declared.LineReader.{LineReader}
use Rattle.line_reader.specs.Reader.{reader_at_spec, next_line_spec, OneLine}

pub one_line : (reader : LineReader) → reader.at < length reader.text.now → OneLine reader (next_line_spec reader).0 (next_line_spec reader).1
one_line reader h =
    let p : PassesLine reader.text.now reader.at (line_at reader.text.now reader.at) = passes_line reader.text.now reader.at h in
    record { first = p.first; passes = p.parted; says = p.says }

pub at_end : (reader : LineReader) → length reader.text.now ≤ reader.at → next_line_spec reader ≡ (IllFormed, reader)
at_end reader h =
    let e : line_at reader.text.now reader.at ≡ read_line IllFormed reader.at = sym (no_line reader.text.now reader.at h) in
    λ i. ((e i).line, reader_at_spec reader.text (e i).next)
