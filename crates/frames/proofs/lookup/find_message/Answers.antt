-- `frames::lookup::find_message` meets its contract: the columns are those of the messages that the words show.
-- Assumes nothing.
use mathlib.Core.Path.{◌≡◌, sym, ap, ◌∙◌, subst⁻¹}
use mathlib.Core.List.{List, ◌∷◌}
use Prim.Native.Nat.{ℕ}
use native.Mathlib.Omega.{arith}
use lib.Seq.{length-take-le}
use lib.ListN.{get_or}
use Rattle.record.specs.Columns.{message_count_of, ends_of}
use Rattle.frames.specs.Lookup.{Spans}
use Rattle.frames.proofs.Lookups.{count_few, first_is, there_is, at_few, nothing, spans}
use Rattle.frames.proofs.lookup.find_message.Goals as goal

pub slice_bounds-find-end : goal.slice_bounds-find-end
slice_bounds-find-end c =
    sym (length-take-le c.message_count-count.result c.ids-ids.result.now (omega (arith, count_few c.args.book.now.words.now c.args.book.now.taken, c.message_count-count.ensures, c.ids-ids.ensures.1)))

pub returns-then-at-count : goal.returns-then-at-count
returns-then-at-count c = let w = c.args.book.now.words.now in
    let count : c.message_count-count.result ≡ message_count_of w = c.message_count-count.ensures in
    let first = first_is w c.args.book.now.taken c.args.identifier c.find-at.result c.message_count-count.result _ count c.ids-ids.ensures.0 c.find-at.ensures in
    nothing w c.args.book.now.taken c.args.identifier c.find-at.result first (c.if-at-count.true ∙ count)

pub begin-requires : goal.begin-requires
begin-requires c = let w = c.args.book.now.words.now in
    let count : c.message_count-count.result ≡ message_count_of w = c.message_count-count.ensures in
    let first = first_is w c.args.book.now.taken c.args.identifier c.find-at.result c.message_count-count.result _ count c.ids-ids.ensures.0 c.find-at.ensures in
    let h = at_few w c.args.book.now.taken c.args.identifier c.find-at.result first (λ e. c.if-at-count.false (e ∙ sym count)) in
    omega (arith, h, c.ends-ends.ensures.1)

pub offset_bounds-ends-at : goal.offset_bounds-ends-at
offset_bounds-ends-at c = let w = c.args.book.now.words.now in
    let count : c.message_count-count.result ≡ message_count_of w = c.message_count-count.ensures in
    let first = first_is w c.args.book.now.taken c.args.identifier c.find-at.result c.message_count-count.result _ count c.ids-ids.ensures.0 c.find-at.ensures in
    let h = at_few w c.args.book.now.taken c.args.identifier c.find-at.result first (λ e. c.if-at-count.false (e ∙ sym count)) in
    omega (arith, h)

pub bounds-ends-at : goal.bounds-ends-at
bounds-ends-at c = let w = c.args.book.now.words.now in
    let count : c.message_count-count.result ≡ message_count_of w = c.message_count-count.ensures in
    let first = first_is w c.args.book.now.taken c.args.identifier c.find-at.result c.message_count-count.result _ count c.ids-ids.ensures.0 c.find-at.ensures in
    let h = at_few w c.args.book.now.taken c.args.identifier c.find-at.result first (λ e. c.if-at-count.false (e ∙ sym count)) in
    omega (arith, h, c.ends-ends.ensures.1)

pub returns : goal.returns
returns c = let w = c.args.book.now.words.now in
    let count : c.message_count-count.result ≡ message_count_of w = c.message_count-count.ensures in
    let first = first_is w c.args.book.now.taken c.args.identifier c.find-at.result c.message_count-count.result _ count c.ids-ids.ensures.0 c.find-at.ensures in
    let there = there_is w c.args.book.now.taken c.args.identifier c.find-at.result first (λ e. c.if-at-count.false (e ∙ sym count)) in
    let begins : c.begin.result ≡ get_or (0 ∷ ends_of w) c.find-at.result 0 = c.begin.ensures ∙ ap (λ (l : List ℕ). get_or (0 ∷ l) c.find-at.result 0) c.ends-ends.ensures.0 in
    let ends : get_or c.ends-ends.result.now c.find-at.result 0 ≡ get_or (ends_of w) c.find-at.result 0 = ap (λ (l : List ℕ). get_or l c.find-at.result 0) c.ends-ends.ensures.0 in
    subst⁻¹ (λ (x : ℕ). Spans w c.args.identifier x (get_or c.ends-ends.result.now c.find-at.result 0)) begins
    (subst⁻¹ (λ (x : ℕ). Spans w c.args.identifier (get_or (0 ∷ ends_of w) c.find-at.result 0) x) ends (spans w c.args.book.now.taken c.args.identifier c.find-at.result first there))
