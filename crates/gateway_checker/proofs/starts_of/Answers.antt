-- `gateway_checker::starts_of` meets its contract: the mask has where those of the routes passed start. Assumes nothing.
use mathlib.Core.Path.{sym, ◌∙◌, subst}
use mathlib.Core.Bool.{true≢false, and-eq-true_iff}
use Prim.Native.Nat.{◌+◌}
use lib.Dec.{ltb}
use borrow.Author.Tests.{ltb-true, lt-ltb}
use Rattle.masks.specs.Bit.{width}
use Rattle.gateway_checker.proofs.Starting.{Starting, starting_start, starting_set, starting_keep, starting_end}
use Rattle.gateway_checker.proofs.starts_of.Goals as goal
use Rattle.gateway_checker.proofs.starts_of.Goals.{then-has-start, else-has-start}

pub loop-a-init : goal.loop-a-init
loop-a-init c = starting_start _ _

pub with-at-requires : goal.with-at-requires
with-at-requires c = ltb-true _ _ ((and-eq-true_iff c.has.result (ltb c.from-start.result width)).0 c.if-has-start.true).1

pub loop-a-preserved : goal.loop-a-preserved
loop-a-preserved c =
    let at_has = c.has in
    let at-start = c.from-start in
    let at-loop-test = c.loop-a-test in
    let at-loop = c.loop-a in
    let at-args = c.args in
    let a = at-loop.a in
    let s = at-start.result in
    let has = at_has.result in
    let Then = Starting at-args.table.now.starts.now at-args.routes (a + 1) in
    let sets = starting_set at-args.table.now.starts.now at-args.routes a at-loop.at at-loop.invariant at-loop-test.true s in
    let keep = starting_keep at-args.table.now.starts.now at-args.routes a at-loop.at at-loop.invariant at-loop-test.true s at-start.ensures in
    elim c.if-has-start.branch [
      | then-has-start w ↦
          let both = (and-eq-true_iff has (ltb s width)).0 w.if-has-start.true in
          subst Then (sym w.at-is) (sets w.with-at.result at-start.ensures (sym at_has.ensures ∙ both.0) (ltb-true _ _ both.1) w.with-at.ensures)
      | else-has-start w ↦
          subst Then (sym w.at-is) (keep (λ h l. true≢false (sym ((and-eq-true_iff has (ltb s width)).1 (at_has.ensures ∙ h, lt-ltb _ _ l)) ∙ w.if-has-start.false)))
    ]

pub returns : goal.returns
returns c = starting_end _ _ _ _ c.loop-a.invariant c.loop-a-test.false
