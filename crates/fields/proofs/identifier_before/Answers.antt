-- `fields::identifier_before` meets its contract: the byte stands after 8 digits, or they are no identifier. Assumes nothing.
use mathlib.Core.Path.{refl, ◌∙◌}
use native.Mathlib.Omega.{arith}
use Rattle.std.specs.Prelude.{None, Some}
use Rattle.fields.proofs.Eight.{not_there, eight}
use Rattle.fields.proofs.identifier_before.Goals as goal
use Rattle.fields.proofs.identifier_before.Goals.{then-text-le-IDENTIFIER_DIGITS-via-then-text-le-IDENTIFIER_DIGITS, then-text-le-IDENTIFIER_DIGITS-via-else-text-le-IDENTIFIER_DIGITS+then-text-stop}

pub returns-then-text-le-IDENTIFIER_DIGITS : goal.returns-then-text-le-IDENTIFIER_DIGITS
returns-then-text-le-IDENTIFIER_DIGITS c =
    elim c.then-text-le-IDENTIFIER_DIGITS.branch [
      | then-text-le-IDENTIFIER_DIGITS-via-then-text-le-IDENTIFIER_DIGITS w ↦ not_there _ _ (λ h. absurd (omega (arith, w.if-text-le-IDENTIFIER_DIGITS.true)))
      | then-text-le-IDENTIFIER_DIGITS-via-else-text-le-IDENTIFIER_DIGITS+then-text-stop w ↦ not_there _ _ (λ h. w.if-text-stop.true)
    ]

pub returns-in_err-v : goal.returns-in_err-v
returns-in_err-v c = c.from_residual.ensures ∙ eight _ _ c.requires c.if-text-le-IDENTIFIER_DIGITS.false c.if-text-stop.false refl None c.in_err-v.ensures

pub returns : goal.returns
returns c = eight _ _ c.requires c.if-text-le-IDENTIFIER_DIGITS.false c.if-text-stop.false refl (Some c.in_ok-v.v) c.in_ok-v.ensures
