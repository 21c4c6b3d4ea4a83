-- `signal_lines::figures::put_figures` meets its contract: each case of the figures has its text. Assumes nothing.
use mathlib.Core.Path.{ap, subst, sym}
use Prim.Native.Nat.{◌≤◌}
use native.Mathlib.Omega.{arith}
use lib.IntN.{ℤ}
use lib.ListN.{length}
use mir.Syntax.{w64}
use mir.Val.{SFits}
use mir.ValLaws.{to_z-of_z}
use borrow.Author.Rules.{rules}
use Rattle.doubles.specs.Doubles.{in_units_spec}
use Rattle.printing.specs.Decimal.{signed_text, signed_room}
use Rattle.printing.proofs.Puts.{put_as, put_within}
use Rattle.printing.proofs.Spelling.{signed_few}
use Rattle.signal_lines.proofs.Showing.{double_long}
use Rattle.signal_lines.proofs.figures.put_figures.Goals as goal

pub returns-in-InThousandths : goal.returns-in-InThousandths
returns-in-InThousandths c =
    let t = c.args.reading in
    let f : SFits w64 t.0 = search rules in
    let same = to_z-of_z w64 t.0 f in
    let put = c.put_signed.ensures in
    rw c.in-InThousandths.is
    (put_within signed_room (put_as (ap signed_text same) put) (omega (arith, subst (λ (z : ℤ). length (signed_text z) ≤ signed_room) (sym same) (signed_few t.0 f), put.now_at)))

pub returns-in-AsDoubles : goal.returns-in-AsDoubles
returns-in-AsDoubles c =
    let put = c.put_double.ensures in
    rw c.in-AsDoubles.is
    (put_within signed_room put (omega (arith, double_long (in_units_spec c.args.reading), put.now_at)))
