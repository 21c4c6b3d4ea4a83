-- `charging::next_charge` meets its contract: a weld leads to fault, a step to the lesser of one more condition and as many as hold, and fault
-- to the start where the plug is out. Assumes nothing.
use mathlib.Core.Path.{sym, ap, ◌∙◌}
use mathlib.Core.Bool.{Bool, cond}
use native.Mathlib.Numerals.{unary_clauses}
use native.Mathlib.Omega.{arith}
use Rattle.charging.specs.declared.ChargeState.TheVariants.{Start, Fault}
use Rattle.charging.proofs.Next.{welded, is_fault, as_step, as_fault}
use Rattle.charging.proofs.next_charge.Goals as goal

-- the state kept comes before the start: where ready is taken for fault, this is the return that is wrong

pub returns-then-not-none_welded : goal.returns-then-not-none_welded
returns-then-not-none_welded c = sym (welded _ c.args.state (sym c.none_welded.ensures ∙ c.if-not-none_welded.true))

pub returns-then-before-lt-FAULT_NUMBER : goal.returns-then-before-lt-FAULT_NUMBER
returns-then-before-lt-FAULT_NUMBER c =
    as_step _ (sym c.none_welded.ensures ∙ c.if-not-none_welded.false) c.args.state
    c.from-before.ensures (omega (arith, c.if-before-lt-FAULT_NUMBER.true)) c.holding.ensures (simp unary_clauses at c.lesser.ensures) c.step_with.ensures

pub returns : goal.returns
returns c =
    is_fault c.args.state c.from-before.ensures c.if-before-lt-FAULT_NUMBER.false
    ∙ ap (λ (out : Bool). cond out Start Fault) (sym c.if-is_unplugged.false ∙ c.is_unplugged.ensures)
    ∙ sym (as_fault _ (sym c.none_welded.ensures ∙ c.if-not-none_welded.false) c.args.state c.from-before.ensures c.if-before-lt-FAULT_NUMBER.false)

pub returns-then-is_unplugged : goal.returns-then-is_unplugged
returns-then-is_unplugged c =
    ap (λ (out : Bool). cond out Start Fault) (sym c.if-is_unplugged.true ∙ c.is_unplugged.ensures)
    ∙ sym (as_fault _ (sym c.none_welded.ensures ∙ c.if-not-none_welded.false) c.args.state c.from-before.ensures c.if-before-lt-FAULT_NUMBER.false)
