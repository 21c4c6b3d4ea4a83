-- `tables::testing::messages_taken` meets its contract: each part of the test that fails refuses the tables, and the last part decides where the others pass. Assumes nothing.
-- before the first message no stamp stands but on the two fixed places
use mathlib.Core.Path.{◌≡◌, refl, sym, ap, ◌∙◌}
use mathlib.Core.Bool.{Bool, true, false, ◌||◌, true≢false}
use mathlib.Core.List.{List, []}
use Prim.Native.Nat.{ℕ, ◌<◌}
use native.Mathlib.Omega.{arith}
use lib.Dec.{eqb}
use lib.ListN.{replicate, get_or, set}
use lib.Seq.{get_or-set_other}
use borrow.Author.Tests.{eqb-true, eqb-false}
use Rattle.books.proofs.Tests.{both_false}
use Rattle.catalogue.specs.Places.{no_place_spec, checksum_place, counter_place}
use Rattle.columns.specs.Identifiers.{distinct_after}
use Rattle.placing.specs.Stamps.{fixed_place, fixed_stamp, Below}
use Rattle.zeros.proofs.Gathering.{zero_at}
use Rattle.tables.proofs.Tested.{many_messages, many_signals, rest_of_messages, rest_of_signals, repeated, last_part}
use Rattle.tables.proofs.testing.messages_taken.Goals as goal

abbrev stamped : List ℕ
stamped = set (set (replicate no_place_spec 0) checksum_place fixed_stamp) counter_place fixed_stamp

first-stamps : Below stamped 1
first-stamps = record { each = refl; fixed = λ p f. go p (eqb p checksum_place) refl (eqb p counter_place) refl f; below = others }
  where
    go : (p : ℕ) (a : Bool) → eqb p checksum_place ≡ a → (b : Bool) → eqb p counter_place ≡ b → a || b ≡ true
        → get_or stamped p 0 ≡ fixed_stamp
    go p true e b f k = ap (λ (q : ℕ). get_or stamped q 0) (eqb-true p checksum_place e)
    go p false e true f k = ap (λ (q : ℕ). get_or stamped q 0) (eqb-true p counter_place f)
    go p false e false f k = absurd (true≢false (sym k))

    others : (p : ℕ) → fixed_place p ≡ false → get_or stamped p 0 < 1
    others p f =
        let both = both_false (eqb p checksum_place) (eqb p counter_place) f in
        let a = get_or-set_other (set (replicate no_place_spec 0) checksum_place fixed_stamp) counter_place p fixed_stamp 0 (eqb-false p counter_place both.1) in
        let b = get_or-set_other (replicate no_place_spec 0) checksum_place p fixed_stamp 0 (eqb-false p checksum_place both.0) in
        let z = zero_at no_place_spec p in
        omega (arith, a, b, z)

pub returns-then-messages-gt-MESSAGES : goal.returns-then-messages-gt-MESSAGES
returns-then-messages-gt-MESSAGES c = many_messages _ _ c.message_count-messages.ensures c.if-messages-gt-MESSAGES.true

pub returns-then-signals-gt-SIGNALS : goal.returns-then-signals-gt-SIGNALS
returns-then-signals-gt-SIGNALS c = many_signals _ _ c.signal_count-signals.ensures c.if-signals-gt-SIGNALS.true

pub returns-then-not-rests_zero : goal.returns-then-not-rests_zero
returns-then-not-rests_zero c = rest_of_messages _ _ _ _ c.message_count-messages.ensures c.ids-ids.ensures.0 c.ends-ends.ensures.0 (sym c.rests_zero.ensures ∙ c.if-not-rests_zero.true)

pub returns-then-not-rests_zero-2 : goal.returns-then-not-rests_zero-2
returns-then-not-rests_zero-2 c = rest_of_signals _ _ _ _ c.signal_count-signals.ensures c.numbers-numbers.ensures.0 c.starts-starts.ensures.0 (sym c.rests_zero-2.ensures ∙ c.if-not-rests_zero-2.true)

pub returns-then-not-distinct : goal.returns-then-not-distinct
returns-then-not-distinct c = repeated _ _ _ c.message_count-messages.ensures c.ids-ids.ensures.0 (sym (c.distinct.ensures ∙ ap (distinct_after []) c.first.ensures.0) ∙ c.if-not-distinct.true)

pub well_parted-requires : goal.well_parted-requires
well_parted-requires c = (omega (arith, c.first-3.ensures.1, c.first-4.ensures.1), omega (arith, c.first-2.ensures.1, c.if-messages-gt-MESSAGES.false), record { places = (c.surpluses-above.ensures, c.bounds-bounds.ensures); lasts = c.last_starts-lasts.ensures }, first-stamps)

pub returns : goal.returns
returns c = c.well_parted.ensures ∙ last_part _ _ _ _ _ _ _ c.message_count-messages.ensures c.signal_count-signals.ensures c.ids-ids.ensures.0 c.ends-ends.ensures.0 c.numbers-numbers.ensures.0 c.starts-starts.ensures.0 c.ids-ids.ensures.1 c.ends-ends.ensures.1 c.numbers-numbers.ensures.1 c.starts-starts.ensures.1 c.if-messages-gt-MESSAGES.false c.if-signals-gt-SIGNALS.false (sym c.rests_zero.ensures ∙ c.if-not-rests_zero.false) (sym c.rests_zero-2.ensures ∙ c.if-not-rests_zero-2.false) (sym (c.distinct.ensures ∙ ap (distinct_after []) c.first.ensures.0) ∙ c.if-not-distinct.false) _ _ _ c.first-2.ensures.0 c.first-3.ensures.0 c.first-4.ensures.0
