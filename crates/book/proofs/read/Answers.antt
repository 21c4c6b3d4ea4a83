-- `book::read` meets its contract: too long, a line refused, or by the verdict on the routes. Assumes nothing.
use native.Mathlib.Omega.{arith}
use Rattle.std.proofs.lemmas.Result.{err_from_is_err_and}
use Rattle.book.proofs.Answers.{empty_too_long, refused_line_law, judged_by}
use Rattle.book.proofs.read.Goals as goal

pub returns-then-text-gt-TEXT_LIMIT : goal.returns-then-text-gt-TEXT_LIMIT
returns-then-text-gt-TEXT_LIMIT c = empty_too_long c.clear.ensures (omega (arith, c.if-text-gt-TEXT_LIMIT.true))

pub returns-in_err-take_lines : goal.returns-in_err-take_lines
returns-in_err-take_lines c =
    let p = err_from_is_err_and c.from_residual.result c.from_residual.ensures.1 in
    rw (p.1, p.2) (refused_line_law _ _ _ c.in_err-take_lines.ensures c.if-text-gt-TEXT_LIMIT.false)

pub answer_judged-requires : goal.answer_judged-requires
answer_judged-requires c = judged_by c.if-text-gt-TEXT_LIMIT.false c.in_ok-take_lines.ensures c.verdict_on-verdict.ensures
