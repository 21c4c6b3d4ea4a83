-- `dash::drawn` meets its contract: each code has its case. Assumes nothing.
use mathlib.Core.Path.{sym, ap, ◌∙◌}
use Prim.Native.Nat.{ℕ}
use lib.Ieee.{Float}
use Rattle.dash.specs.declared.Dash.TheVariants.{Value}
use Rattle.std.specs.Prelude.{Ok}
use Rattle.dash.specs.Coded.{dash_coded}
use Rattle.dash.proofs.Coded.{last_code}
use Rattle.dash.proofs.drawn.Goals as goal

pub returns-in-0 : goal.returns-in-0
returns-in-0 c =
    ap (λ (x : Float). Ok (Value x)) c.in_units.ensures
    ∙ ap (λ (n : ℕ). dash_coded n c.args.reading) (sym c.in-0.is)

pub returns-in-1 : goal.returns-in-1
returns-in-1 c = ap (λ (n : ℕ). dash_coded n c.args.reading) (sym c.in-1.is)

pub returns-in-2 : goal.returns-in-2
returns-in-2 c = ap (λ (n : ℕ). dash_coded n c.args.reading) (sym c.in-2.is)

pub returns-in-3 : goal.returns-in-3
returns-in-3 c = ap (λ (n : ℕ). dash_coded n c.args.reading) (sym c.in-3.is)

pub returns-in-4 : goal.returns-in-4
returns-in-4 c = ap (λ (n : ℕ). dash_coded n c.args.reading) (sym c.in-4.is)

pub returns-in-5 : goal.returns-in-5
returns-in-5 c = ap (λ (n : ℕ). dash_coded n c.args.reading) (sym c.in-5.is)

pub returns-in-6 : goal.returns-in-6
returns-in-6 c = ap (λ (n : ℕ). dash_coded n c.args.reading) (sym c.in-6.is)

pub returns-in_default : goal.returns-in_default
returns-in_default c = last_code c.args.code c.args.reading c.in_default.in_default-own.rest
