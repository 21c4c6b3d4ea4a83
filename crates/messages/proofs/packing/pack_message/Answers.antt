-- `messages::packing::pack_message` meets its contract: what the values came to says which answer it is.
-- Assumes nothing.
use mathlib.Core.Path.{sym, ap, ◌∙◌}
use Rattle.bits.specs.Word.{bytes_of}
use Rattle.std.proofs.lemmas.Result.{err_from_is_err_and}
use Rattle.messages.proofs.Packs.{refused, was_packed}
use Rattle.messages.proofs.packing.pack_message.Goals as goal

pub returns-in_err-word : goal.returns-in_err-word
returns-in_err-word c = let a = c.args in
    let p = err_from_is_err_and c.from_residual.result c.from_residual.ensures.1 in
    rw (p.1, p.2) (refused a.identifier a.numbers.now a.starts.now a.values.now a.frame.now _ (sym c.in_err-word.ensures))

pub returns : goal.returns
returns c = let a = c.args in
    was_packed a.identifier a.numbers.now a.starts.now a.values.now a.frame.now c.requires.0.same c.in_ok-word.word (sym c.in_ok-word.ensures) _ (c.store.ensures ∙ ap bytes_of c.summed.ensures)
