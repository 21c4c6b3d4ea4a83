-- `numbering::Column::at` meets its contract: an index past the first column counts on in the second. Assumes nothing.
use mathlib.Core.Path.{◌≡◌, sym, ap, ◌∙◌}
use mathlib.Core.List.{List, ◌++◌}
use Prim.Native.Nat.{ℕ, ◌+◌, ◌-◌}
use native.Mathlib.Omega.{arith}
use lib.ListN.{length, get_or, get_or-append}
use lib.Seq.{get_or-append-add}
use Rattle.numbering.proofs.Column.at.Goals as goal

pub returns-then-x-n : goal.returns-then-x-n
returns-then-x-n c =
    let tos = c.self.inside.tos.now in
    let froms = c.self.inside.froms.now in
    sym (get_or-append tos froms 0 _ c.if-x-n.true) ∙ ap (λ (l : List ℕ). get_or l c.args.x 0) c.self.view_is

pub returns : goal.returns
returns c =
    let tos = c.self.inside.tos.now in
    let froms = c.self.inside.froms.now in
    let x = c.args.x in
    let e : length tos + (x - length tos) ≡ x = omega (arith, c.if-x-n.false) in
    sym (get_or-append-add tos froms (x - length tos) 0) ∙ ap (λ (y : ℕ). get_or (tos ++ froms) y 0) e ∙ ap (λ (l : List ℕ). get_or l x 0) c.self.view_is
