-- `tables::judging::judge_after` meets its contract: each `return` is one case of the refusal. Assumes nothing.
use mathlib.Core.List.{List}
use Prim.Native.Nat.{ℕ}
use Rattle.placing.specs.Filling.{Marks}
use mathlib.Core.Path.{sym, ◌∙◌, subst}
use native.Mathlib.Omega.{arith}
use borrow.Author.Tests.{le-leb, lt-leb}
use Rattle.placing.proofs.Placing.{not_past}
use Rattle.placing.proofs.Filling.{meets_same}
use Rattle.books.specs.Book.{placement}
use Rattle.books.specs.Lines.{after_refusal}
use Rattle.tables.proofs.judging.judge_after.Goals as goal

pub is_repeated-requires : goal.is_repeated-requires
is_repeated-requires c = subst (λ (l : List ℕ). Marks l c.args.filled.marks) c.requires.0.1.listed c.requires.0.1.fills.marks

pub returns-then-is_repeated : goal.returns-then-is_repeated
unfolding after_refusal
returns-then-is_repeated c = λ ps e. rw (e.listed, sym c.is_repeated.ensures ∙ c.if-is_repeated.true)

pub is_misplaced-requires : goal.is_misplaced-requires
is_misplaced-requires c = (c.requires.1, c.requires.3, c.requires.4)

pub returns-then-is_misplaced : goal.returns-then-is_misplaced
unfolding after_refusal
returns-then-is_misplaced c = λ ps e. rw (e.listed, sym c.is_repeated.ensures ∙ c.if-is_repeated.false, sym c.is_misplaced.ensures ∙ c.if-is_misplaced.true)

pub run-requires : goal.run-requires
run-requires c = record { from = c.requires.1; some = c.requires.2; few = c.requires.3; to = not_past _ _ _ c.requires.4 (sym c.is_misplaced.ensures ∙ c.if-is_misplaced.false) }

pub returns-then-meet : goal.returns-then-meet
unfolding after_refusal
returns-then-meet c = λ ps e.
    let same = meets_same ps (placement c.args.number c.args.start) c.args.filled e.fills (omega (arith, c.requires.2, c.requires.4)) _ c.requires.4 _ c.run.ensures in
    rw (e.listed, sym c.is_repeated.ensures ∙ c.if-is_repeated.false, sym c.is_misplaced.ensures ∙ c.if-is_misplaced.false, sym same ∙ sym c.meet.ensures ∙ c.if-meet.true)

pub returns-then-count-ge-SIGNALS : goal.returns-then-count-ge-SIGNALS
unfolding after_refusal
returns-then-count-ge-SIGNALS c = λ ps e.
    let same = meets_same ps (placement c.args.number c.args.start) c.args.filled e.fills (omega (arith, c.requires.2, c.requires.4)) _ c.requires.4 _ c.run.ensures in
    rw (e.listed, sym c.is_repeated.ensures ∙ c.if-is_repeated.false, sym c.is_misplaced.ensures ∙ c.if-is_misplaced.false, sym same ∙ sym c.meet.ensures ∙ c.if-meet.false, le-leb _ _ c.if-count-ge-SIGNALS.true)

pub returns : goal.returns
unfolding after_refusal
returns c = λ ps e.
    let same = meets_same ps (placement c.args.number c.args.start) c.args.filled e.fills (omega (arith, c.requires.2, c.requires.4)) _ c.requires.4 _ c.run.ensures in
    rw (e.listed, sym c.is_repeated.ensures ∙ c.if-is_repeated.false, sym c.is_misplaced.ensures ∙ c.if-is_misplaced.false, sym same ∙ sym c.meet.ensures ∙ c.if-meet.false, lt-leb _ _ c.if-count-ge-SIGNALS.false)
