-- `dash_vectors::show` is safe: every reading of the dash is a number. Assumes nothing.
use Rattle.std.proofs.Common.{sym, subst}
use Rattle.dash_vectors.specs.Numbers.{NumberAnswered}
use Rattle.dash_vectors.proofs.Numbers.{number_answered}
use Rattle.dash_vectors.proofs.show.Goals as goal

pub print_answer-requires : goal.print_answer-requires
print_answer-requires g c = subst NumberAnswered (sym c.show.ensures) (number_answered c.args.number c.args.raw)
