-- The test of the message and signal tables passes just where they are those of a taken book. Assumes nothing.
use mathlib.Core.Path.{◌≡◌, refl, sym, ap, ◌∙◌}
use mathlib.Core.Bool.{Bool, true, false, ◌&&◌, true≢false, and-eq-true_iff}
use mathlib.Core.List.{List, [], ◌++◌}
use Prim.Native.Nat.{ℕ, ◌+◌, ◌-◌, ◌≤◌, ◌<◌}
use native.Mathlib.Omega.{arith}
use lib.ListN.{length, take, drop, replicate, length-drop, length-map}
use lib.Seq.{length-take-le, take-add, drop-drop}
use borrow.Author.Tests.{le-leb}
use Rattle.books.specs.Book.{Placement, Message, identifiers, numbers, all_placements}
use Rattle.books.specs.Good.{good_from, good}
use Rattle.books.specs.Lines.{message_limit, signal_limit}
use Rattle.books.specs.Words.{column, placement_starts, ends_after, id_column, end_column, number_column, start_column, message_columns, side_by_side, messages_of, messages_taken_spec, Stands}
use Rattle.books.proofs.Sides.{side_back, side_length, side_numbers, side_starts}
use Rattle.books.proofs.Columns.{take_column, past_column, filled, length_ends, within, ids_stand, ends_stand, numbers_stand, starts_stand, taken_stands, stands_taken}
use Rattle.columns.specs.Identifiers.{distinct_after}
use Rattle.record.specs.Columns.{ids_at, ends_at, numbers_at, message_count_of, signal_count_of, ids_of, ends_of, numbers_of, starts_of, message_columns_of}
use Rattle.zeros.specs.Zeros.{zeros}
use Rattle.zeros.proofs.Gathering.{zeros_are, are_zeros}
use Rattle.tables.specs.Testing.{parted}
use Rattle.tables.proofs.Parted.{shown_ids, shown_ends, shown_all, shown_good, good_parted, good_distinct}

-- ---- a column whose rest is 0
column_zero : (k n : ℕ) (l : List ℕ) → length l ≡ k → n ≤ k → zeros (drop n l) ≡ true → l ≡ column k (take n l)
column_zero k n l e h z =
    let d : length (drop n l) ≡ k - n = omega (arith, length-drop n l) in
    filled k n l e h (zeros_are (drop n l) z ∙ ap (λ (j : ℕ). replicate j 0) d)

zero_column : (k n : ℕ) (l : List ℕ) → length l ≡ n → zeros (drop n (column k l)) ≡ true
zero_column k n l e = ap zeros (past_column k n l e) ∙ are_zeros (k - n)

-- the four columns are one after the other
columns_whole : (w : List ℕ) → message_columns_of w ≡ ids_of w ++ (ends_of w ++ (numbers_of w ++ starts_of w))
columns_whole w =
    take-add message_limit (message_limit + (signal_limit + signal_limit)) (drop ids_at w) ∙ ap (λ (l : List ℕ). ids_of w ++ l)
    (ap (take (message_limit + (signal_limit + signal_limit))) (drop-drop message_limit ids_at w) ∙
    take-add message_limit (signal_limit + signal_limit) (drop ends_at w) ∙ ap (λ (l : List ℕ). ends_of w ++ l)
    (ap (take (signal_limit + signal_limit)) (drop-drop message_limit ends_at w) ∙
    take-add signal_limit signal_limit (drop numbers_at w) ∙ ap (λ (l : List ℕ). numbers_of w ++ l)
    (ap (take signal_limit) (drop-drop signal_limit numbers_at w))))

-- what the columns' lengths are, which the words of a book always have
pub record Long (w : List ℕ) : Type 0 where
  pub ids : length (ids_of w) ≡ message_limit
  pub ends : length (ends_of w) ≡ message_limit
  pub numbers : length (numbers_of w) ≡ signal_limit
  pub starts : length (starts_of w) ≡ signal_limit

-- all parts of the test pass
pub record Checked (w : List ℕ) : Type 0 where
  pub few : message_count_of w ≤ message_limit
  pub room : signal_count_of w ≤ signal_limit
  pub messages_rest : zeros (drop (message_count_of w) (ids_of w)) && zeros (drop (message_count_of w) (ends_of w)) ≡ true
  pub signals_rest : zeros (drop (signal_count_of w) (numbers_of w)) && zeros (drop (signal_count_of w) (starts_of w)) ≡ true
  pub new : distinct_after [] (take (message_count_of w) (ids_of w)) ≡ true
  pub parts : parted 0 (take (message_count_of w) (ends_of w)) (side_by_side (take (signal_count_of w) (numbers_of w)) (take (signal_count_of w) (starts_of w))) ≡ true

-- words that pass it are those of the messages that they show
module _ (w : List ℕ) (l : Long w) (c : Checked w) where
  ids : List ℕ
  ids = take (message_count_of w) (ids_of w)

  ends : List ℕ
  ends = take (message_count_of w) (ends_of w)

  ns : List ℕ
  ns = take (signal_count_of w) (numbers_of w)

  ss : List ℕ
  ss = take (signal_count_of w) (starts_of w)

  ids_few : length ids ≡ message_count_of w
  unfolding ids
  ids_few = length-take-le (message_count_of w) (ids_of w) (omega (arith, l.ids, c.few))

  ends_few : length ends ≡ message_count_of w
  unfolding ends
  ends_few = length-take-le (message_count_of w) (ends_of w) (omega (arith, l.ends, c.few))

  numbers_few : length ns ≡ signal_count_of w
  unfolding ns
  numbers_few = length-take-le (signal_count_of w) (numbers_of w) (omega (arith, l.numbers, c.room))

  starts_few : length ss ≡ length ns
  unfolding ns ss
  starts_few =
      length-take-le (signal_count_of w) (starts_of w) (omega (arith, l.starts, c.room)) ∙
      sym (length-take-le (signal_count_of w) (numbers_of w) (omega (arith, l.numbers, c.room)))

  in_step : length ids ≡ length ends
  in_step = ids_few ∙ sym ends_few

  shows_ids : identifiers (messages_of w) ≡ ids
  unfolding messages_of ids ends ns ss
  shows_ids = shown_ids 0 ids ends (side_by_side ns ss) in_step

  shows_ends : ends_after 0 (messages_of w) ≡ ends
  unfolding messages_of ids ends ns ss
  shows_ends = shown_ends 0 ids ends (side_by_side ns ss) in_step c.parts

  shows_all : all_placements (messages_of w) ≡ side_by_side ns ss
  unfolding messages_of ids ends ns ss
  shows_all = shown_all 0 ids ends (side_by_side ns ss) in_step c.parts

  shows_good : good_from [] (messages_of w) ≡ true
  unfolding messages_of ids ends ns ss
  shows_good = shown_good [] 0 ids ends (side_by_side ns ss) in_step c.parts c.new

  count_messages : message_count_of w ≡ length (messages_of w)
  count_messages = sym (sym (length-map (messages_of w) (λ (m : Message). m.identifier)) ∙ ap length shows_ids ∙ ids_few)

  count_signals : signal_count_of w ≡ length (all_placements (messages_of w))
  count_signals = sym (ap length shows_all ∙ side_length ns ss starts_few ∙ numbers_few)

  standing : Stands w (messages_of w)
  unfolding message_columns ids ends ns ss
  standing =
      let a = (and-eq-true_iff (zeros (drop (message_count_of w) (ids_of w))) _).0 c.messages_rest in
      let b = (and-eq-true_iff (zeros (drop (signal_count_of w) (numbers_of w))) _).0 c.signals_rest in
      let i : ids_of w ≡ id_column (messages_of w) = column_zero message_limit (message_count_of w) (ids_of w) l.ids c.few a.0 ∙ ap (column message_limit) (sym shows_ids) in
      let e : ends_of w ≡ end_column (messages_of w) = column_zero message_limit (message_count_of w) (ends_of w) l.ends c.few a.1 ∙ ap (column message_limit) (sym shows_ends) in
      let n : numbers_of w ≡ number_column (messages_of w) =
      column_zero signal_limit (signal_count_of w) (numbers_of w) l.numbers c.room b.0 ∙ ap (column signal_limit) (sym (ap numbers shows_all ∙ side_numbers ns ss starts_few)) in
      let s : starts_of w ≡ start_column (messages_of w) =
      column_zero signal_limit (signal_count_of w) (starts_of w) l.starts c.room b.1 ∙ ap (column signal_limit) (sym (ap placement_starts shows_all ∙ side_starts ns ss starts_few)) in
      record { messages = count_messages; signals = count_signals; columns = cc (columns_whole w) }

  checked_taken : messages_taken_spec w ≡ true
  unfolding good
  checked_taken =
      stands_taken w (messages_of w) standing
      ((and-eq-true_iff _ _).1 (
        shows_good,
        (and-eq-true_iff _ _).1 (
          le-leb (length (messages_of w)) message_limit (omega (arith, count_messages, c.few)),
          le-leb (length (all_placements (messages_of w))) signal_limit (omega (arith, count_signals, c.room)),
        ),
      ))

-- and words of messages that lines build pass it
module _ (w : List ℕ) (t : messages_taken_spec w ≡ true) where
  stood : Stands w (messages_of w)
  stood = (taken_stands w t).0

  sound : good (messages_of w) ≡ true
  sound = (taken_stands w t).1

  few' : length (messages_of w) ≤ message_limit
  few' = (within (messages_of w) sound).few

  room' : length (all_placements (messages_of w)) ≤ signal_limit
  room' = (within (messages_of w) sound).room

  each : good_from [] (messages_of w) ≡ true
  unfolding good
  each = ((and-eq-true_iff (good_from [] (messages_of w)) _).0 sound).0

  ids_are : length (identifiers (messages_of w)) ≡ length (messages_of w)
  ids_are = length-map (messages_of w) (λ (m : Message). m.identifier)

  taken_checked : Checked w
  taken_checked =
      let ids-in = ids_stand w (messages_of w) few' room' stood in
      let ends-in = ends_stand w (messages_of w) few' room' stood in
      let numbers-in = numbers_stand w (messages_of w) few' room' stood in
      let starts-in = starts_stand w (messages_of w) few' room' stood in
      let ps = all_placements (messages_of w) in
      let n_are : length (numbers ps) ≡ length ps = length-map ps (λ (p : Placement). p.number) in
      let s_are : length (placement_starts ps) ≡ length ps = length-map ps (λ (p : Placement). p.start) in
      let e-are = length_ends 0 (messages_of w) in
      record {
        few = omega (arith, stood.messages, few');
        room = omega (arith, stood.signals, room');
        messages_rest = rw (stood.messages, ids-in, ends-in)
            ((and-eq-true_iff _ _).1 (zero_column message_limit _ (identifiers (messages_of w)) ids_are, zero_column message_limit _ (ends_after 0 (messages_of w)) e-are));
        signals_rest = rw (stood.signals, numbers-in, starts-in)
            ((and-eq-true_iff _ _).1 (zero_column signal_limit _ (numbers ps) n_are, zero_column signal_limit _ (placement_starts ps) s_are));
        new = rw (stood.messages, ids-in, take_column message_limit (length (messages_of w)) (identifiers (messages_of w)) ids_are) (good_distinct [] (messages_of w) each);
        parts = rw (
          stood.messages,
          stood.signals,
          ends-in,
          numbers-in,
          starts-in,
          take_column message_limit (length (messages_of w)) (ends_after 0 (messages_of w)) e-are,
          take_column signal_limit (length ps) (numbers ps) n_are,
          take_column signal_limit (length ps) (placement_starts ps) s_are,
          side_back,
        )
            (good_parted [] 0 (messages_of w) each);
      }

-- ---- what the test answers

-- a part that fails
fails : (w : List ℕ) → (Checked w → ⊥) → false ≡ messages_taken_spec w
fails w f = go (messages_taken_spec w) refl
  where
    go : (t : Bool) → messages_taken_spec w ≡ t → false ≡ messages_taken_spec w
    go true e = absurd (f (taken_checked w e))
    go false e = sym e

-- the counts, and the columns, by the names that the code has for them
pub many_messages : (w : List ℕ) (m : ℕ) → m ≡ message_count_of w → message_limit < m → false ≡ messages_taken_spec w
many_messages w m em g = fails w (λ c. omega (arith, c.few, em))

pub many_signals : (w : List ℕ) (s : ℕ) → s ≡ signal_count_of w → signal_limit < s → false ≡ messages_taken_spec w
many_signals w s es g = fails w (λ c. omega (arith, c.room, es))

pub rest_of_messages : (w : List ℕ) (m : ℕ) (ids ends : List ℕ) → m ≡ message_count_of w → ids ≡ ids_of w → ends ≡ ends_of w
    → zeros (drop m ids) && zeros (drop m ends) ≡ false → false ≡ messages_taken_spec w
rest_of_messages w m ids ends em ei ee f = fails w (λ c. true≢false (sym c.messages_rest ∙ sym (rw (em, ei, ee)) ∙ f))

pub rest_of_signals : (w : List ℕ) (s : ℕ) (ns ss : List ℕ) → s ≡ signal_count_of w → ns ≡ numbers_of w → ss ≡ starts_of w
    → zeros (drop s ns) && zeros (drop s ss) ≡ false → false ≡ messages_taken_spec w
rest_of_signals w s ns ss es en et f = fails w (λ c. true≢false (sym c.signals_rest ∙ sym (rw (es, en, et)) ∙ f))

pub repeated : (w : List ℕ) (m : ℕ) (ids : List ℕ) → m ≡ message_count_of w → ids ≡ ids_of w → distinct_after [] (take m ids) ≡ false → false ≡ messages_taken_spec w
repeated w m ids em ei f = fails w (λ c. true≢false (sym c.new ∙ sym (rw (em, ei)) ∙ f))

-- the last part, where the others pass
module _ (w : List ℕ) (m s : ℕ) (ids ends ns ss : List ℕ) (em : m ≡ message_count_of w) (es : s ≡ signal_count_of w)
    (ei : ids ≡ ids_of w) (ee : ends ≡ ends_of w) (en : ns ≡ numbers_of w) (et : ss ≡ starts_of w)
    (li : length ids ≡ message_limit) (le : length ends ≡ message_limit) (ln : length ns ≡ signal_limit) (ls : length ss ≡ signal_limit)
    (few : m ≤ message_limit) (room : s ≤ signal_limit)
    (mz : zeros (drop m ids) && zeros (drop m ends) ≡ true) (sz : zeros (drop s ns) && zeros (drop s ss) ≡ true) (d : distinct_after [] (take m ids) ≡ true) where
  long : Long w
  long = record { ids = rw ei at li; ends = rw ee at le; numbers = rw en at ln; starts = rw et at ls }

  pub last_part : (ends' ns' ss' : List ℕ) → ends' ≡ take m ends → ns' ≡ take s ns → ss' ≡ take s ss → parted 0 ends' (side_by_side ns' ss') ≡ messages_taken_spec w
  last_part ends' ns' ss' fe fn ft = go (parted 0 ends' (side_by_side ns' ss')) refl
    where
      same : parted 0 (take (message_count_of w) (ends_of w)) (side_by_side (take (signal_count_of w) (numbers_of w)) (take (signal_count_of w) (starts_of w))) ≡ parted 0 ends' (side_by_side ns' ss')
      same = rw (fe, fn, ft, em, es, ee, en, et)

      checked : parted 0 ends' (side_by_side ns' ss') ≡ true → Checked w
      checked e = record {
        few = omega (arith, em, few);
        room = omega (arith, es, room);
        messages_rest = rw (← em, ← ei, ← ee) mz;
        signals_rest = rw (← es, ← en, ← et) sz;
        new = rw (← em, ← ei) d;
        parts = same ∙ e;
      }

      go : (t : Bool) → parted 0 ends' (side_by_side ns' ss') ≡ t → parted 0 ends' (side_by_side ns' ss') ≡ messages_taken_spec w
      go true e = e ∙ sym (checked_taken w long (checked e))
      go false e = e ∙ fails w (λ c. true≢false (sym c.parts ∙ same ∙ e))
