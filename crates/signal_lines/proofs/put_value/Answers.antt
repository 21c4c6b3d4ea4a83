-- `signal_lines::put_value` meets its contract: a word, a tab, the figures, a newline. Assumes nothing.
use native.Mathlib.Omega.{arith}
use Rattle.printing.proofs.Puts.{put_within}
use Rattle.signal_lines.specs.Printed.{end_room}
use Rattle.signal_lines.proofs.Fields.{put_more, put_last}
use Rattle.signal_lines.proofs.put_value.Goals as goal

pub returns : goal.returns
returns c =
    let word = c.put_bytes-after_word.ensures in
    let tab = c.put_byte-number.ensures in
    let figures = c.put_figures-end.ensures in
    let newline = c.put_byte.ensures in
    put_within end_room (put_more _ _ word tab (put_last figures.put newline)) (omega (arith, figures.short, newline.now_at, figures.put.now_at, tab.now_at, word.now_at))
