-- `route_tables::routes_taken` meets its contract: each test that fails is one that a taken book passes. Assumes nothing.
use Prim.Native.Nat.{ℕ}
use lib.ListN.{take}
use mathlib.Core.Path.{sym, ◌∙◌, subst}
use mathlib.Core.Bool.{true≢false}
use mathlib.Core.List.{List}
use native.Mathlib.Omega.{arith}
use Rattle.chains.specs.Chain.{IsSound}
use Rattle.chains.specs.Tells.{Tells}
use Rattle.route_tables.proofs.Tested.{few_taken, froms_past, tos_past, tells}
use Rattle.route_tables.proofs.routes_taken.Goals as goal

pub returns-then-n-gt-ROUTES : goal.returns-then-n-gt-ROUTES
returns-then-n-gt-ROUTES c = λ t. omega (arith, c.if-n-gt-ROUTES.true, few_taken _ _ c.route_count-n.ensures t)

pub returns-then-not-zero_past : goal.returns-then-not-zero_past
returns-then-not-zero_past c = λ t. true≢false (sym (c.zero_past.ensures ∙ froms_past _ _ _ _ c.route_count-n.ensures c.froms-froms.ensures.0 c.tos-tos.ensures.0 t) ∙ c.if-not-zero_past.true)

pub returns-then-not-zero_past-2 : goal.returns-then-not-zero_past-2
returns-then-not-zero_past-2 c =
    let at-zero-past2 = c.zero_past-2 in
    let at-tos = c.tos-tos in
    let at-froms = c.froms-froms in
    let at_count = c.route_count-n in
    λ t. true≢false (sym (at-zero-past2.ensures ∙ tos_past _ _ _ _ at_count.ensures at-froms.ensures.0 at-tos.ensures.0 t) ∙ c.if-not-zero_past-2.true)

pub returns : goal.returns
returns c =
    let at-first2 = c.first-2 in
    let at_first = c.first in
    let at-if3 = c.if-not-zero_past-2 in
    let at-zero-past2 = c.zero_past-2 in
    let at-if2 = c.if-not-zero_past in
    let at-zero-past = c.zero_past in
    let at-tos = c.tos-tos in
    let at-froms = c.froms-froms in
    let at-if1 = c.if-n-gt-ROUTES in
    let at_count = c.route_count-n in
    let s = subst (λ (fs : List ℕ). Tells (IsSound fs at-first2.result.now) c.sound.result) at_first.ensures.0 c.sound.ensures in
    let s' = subst (λ (ts : List ℕ). Tells (IsSound (take at_count.result at-froms.result.now) ts) c.sound.result) at-first2.ensures.0 s in
    tells _ _ _ _ at_count.ensures at-froms.ensures.0 at-tos.ensures.0 (omega (arith, at-if1.false)) at-froms.ensures.1 at-tos.ensures.1 (sym at-zero-past.ensures ∙ at-if2.false) (sym at-zero-past2.ensures ∙ at-if3.false) c.sound.result s'
