-- Messages in words, and back: what stands in words is what they show, and the test behind refusal 12 says when words are those of a taken book.
-- Assumes nothing.
use mathlib.Core.Path.{◌≡◌, refl, sym, ap, ◌∙◌}
use mathlib.Core.Bool.{true, and-eq-true_iff}
use Prim.Native.Nat.{ℕ, zero, suc, ◌+◌, ◌-◌, ◌≤◌}
use native.Mathlib.Omega.{arith}
use mathlib.Core.List.{List, [], ◌∷◌, ◌++◌}
use lib.Dec.{eqb, leb}
use lib.ListN.{length, take, drop, replicate, length-append, length-replicate, length-map, take-append-drop}
use lib.Seq.{take_at, drop_at, take-take, drop-drop, take_all, length-take-le}
use borrow.Author.Tests.{eqb-true, eq-eqb, leb-true}
use Rattle.record.specs.Columns.{message_count_of, signal_count_of, ids_at, message_words, ids_of, ends_of, numbers_of, starts_of}
use Rattle.books.specs.Book.{Placement, Message, Book, identifiers, numbers, all_placements}
use Rattle.books.specs.Lines.{message_limit, signal_limit}
use Rattle.books.specs.Good.{good, good_from}
use Rattle.books.specs.Words.{column, id_column, end_column, number_column, start_column, placement_starts, ends_after, message_columns, route_columns, words_of, shown, messages_of, same, messages_taken_spec, Stands, OfBuilt}
use Rattle.books.proofs.Building.{good_built, built_good}
use Rattle.books.proofs.Sides.{side_back}

pub length_column : (n : ℕ) (l : List ℕ) → length l ≤ n → length (column n l) ≡ n
unfolding column
length_column n l h = omega (arith, length-append l (replicate (n - length l) 0), length-replicate {A = ℕ} (n - length l) 0)

pub take_column : (n k : ℕ) (l : List ℕ) → length l ≡ k → take k (column n l) ≡ l
unfolding column
take_column n k l e = take_at l (replicate (n - length l) 0) k e

-- past its entries a column has 0
pub past_column : (n k : ℕ) (l : List ℕ) → length l ≡ k → drop k (column n l) ≡ replicate (n - k) 0
unfolding column
past_column n k l e = drop_at l (replicate (n - length l) 0) k e ∙ ap (λ (j : ℕ). replicate (n - j) 0) e

-- and what has 0 past its first entries is the column of those
pub filled : (n k : ℕ) (l : List ℕ) → length l ≡ n → k ≤ n → drop k l ≡ replicate (n - k) 0 → l ≡ column n (take k l)
unfolding column
filled n k l e h z =
    sym (take-append-drop k l) ∙ ap (λ (r : List ℕ). take k l ++ r) (z ∙ ap (λ (j : ℕ). replicate (n - j) 0) (sym (length-take-le k l (omega arith))))

-- a part of what was taken is that part of the whole
pub part_of : (n k m : ℕ) (l : List ℕ) → n + k ≤ m → take n (drop k (take m l)) ≡ take n (drop k l)
part_of n zero m l h = take-take n m l (omega arith)
part_of n (suc k) zero l h = absurd (omega arith)
part_of n (suc k) (suc m) [] h = refl
part_of n (suc k) (suc m) (x ∷ l) h = part_of n k m l (omega arith)

-- four columns one after the other
module _ (a b c d : List ℕ) (la : length a ≡ message_limit) (lb : length b ≡ message_limit) (lc : length c ≡ signal_limit) (ld : length d ≡ signal_limit) where
  first_part : take message_limit (drop 0 (a ++ (b ++ (c ++ d)))) ≡ a
  first_part = take_at a (b ++ (c ++ d)) message_limit la

  second_part : take message_limit (drop message_limit (a ++ (b ++ (c ++ d)))) ≡ b
  second_part = ap (take message_limit) (drop_at a (b ++ (c ++ d)) message_limit la) ∙ take_at b (c ++ d) message_limit lb

  third_part : take signal_limit (drop (message_limit + message_limit) (a ++ (b ++ (c ++ d)))) ≡ c
  third_part = ap (take signal_limit) (sym (drop-drop message_limit message_limit (a ++ (b ++ (c ++ d)))) ∙ ap (drop message_limit) (drop_at a (b ++ (c ++ d)) message_limit la) ∙ drop_at b (c ++ d) message_limit lb) ∙ take_at c d signal_limit lc

  fourth_part : take signal_limit (drop (message_limit + (message_limit + signal_limit)) (a ++ (b ++ (c ++ d)))) ≡ d
  fourth_part =
      ap (take signal_limit)
      (sym (drop-drop (message_limit + signal_limit) message_limit (a ++ (b ++ (c ++ d)))) ∙ ap (drop (message_limit + signal_limit)) (drop_at a (b ++ (c ++ d)) message_limit la) ∙
      sym (drop-drop signal_limit message_limit (b ++ (c ++ d))) ∙ ap (drop signal_limit) (drop_at b (c ++ d) message_limit lb) ∙ drop_at c d signal_limit lc) ∙
      take_all signal_limit d (omega arith)

  four_long : length (a ++ (b ++ (c ++ d))) ≡ message_words
  four_long = omega (arith, length-append a (b ++ (c ++ d)), length-append b (c ++ d), length-append c d)

ends_less : (n k : ℕ) → (n + k) - n ≡ k
ends_less n k = omega arith

pub shown_back : (n : ℕ) (ms : List Message) → shown n (identifiers ms) (ends_after n ms) (all_placements ms) ≡ ms
unfolding shown ends_after all_placements
shown_back n [] = refl
shown_back n (m ∷ ms) =
    rw (ends_less n (length m.placements), take_at m.placements (all_placements ms) (length m.placements) refl, drop_at m.placements (all_placements ms) (length m.placements) refl)
    (ap (◌∷◌ m) (shown_back (n + length m.placements) ms))

pub length_ends : (n : ℕ) (ms : List Message) → length (ends_after n ms) ≡ length ms
unfolding ends_after
length_ends n [] = refl
length_ends n (m ∷ ms) = ap suc (length_ends (n + length m.placements) ms)

-- the columns of messages within the limits
module _ (ms : List Message) (few : length ms ≤ message_limit) (room : length (all_placements ms) ≤ signal_limit) where
  pub ids_long : length (id_column ms) ≡ message_limit
  ids_long = length_column message_limit (identifiers ms) (omega (arith, length-map ms (λ (m : Message). m.identifier)))

  pub ends_long : length (end_column ms) ≡ message_limit
  ends_long = length_column message_limit (ends_after 0 ms) (omega (arith, length_ends 0 ms))

  pub numbers_long : length (number_column ms) ≡ signal_limit
  numbers_long = length_column signal_limit (numbers (all_placements ms)) (omega (arith, length-map (all_placements ms) (λ (p : Placement). p.number)))

  pub starts_long : length (start_column ms) ≡ signal_limit
  starts_long = length_column signal_limit (placement_starts (all_placements ms)) (omega (arith, length-map (all_placements ms) (λ (p : Placement). p.start)))

  pub columns_long : length (message_columns ms) ≡ message_words
  unfolding message_columns
  columns_long = four_long (id_column ms) (end_column ms) (number_column ms) (start_column ms) ids_long ends_long numbers_long starts_long

-- what stands in the words is what they show
module _ (w : List ℕ) (ms : List Message) (few : length ms ≤ message_limit) (room : length (all_placements ms) ≤ signal_limit) (s : Stands w ms) where
  from_columns : (n k : ℕ) (c : List ℕ) → n + k ≤ message_words → take n (drop k (message_columns ms)) ≡ c → take n (drop (ids_at + k) w) ≡ c
  from_columns n k c h e = ap (take n) (sym (drop-drop k ids_at w)) ∙ sym (part_of n k message_words (drop ids_at w) h) ∙ ap (λ (l : List ℕ). take n (drop k l)) s.columns ∙ e

  pub ids_stand : ids_of w ≡ id_column ms
  unfolding message_columns
  ids_stand = from_columns message_limit 0 _ (omega arith) (first_part (id_column ms) (end_column ms) (number_column ms) (start_column ms) (ids_long ms few room) (ends_long ms few room) (numbers_long ms few room) (starts_long ms few room))

  pub ends_stand : ends_of w ≡ end_column ms
  unfolding message_columns
  ends_stand = from_columns message_limit message_limit _ (omega arith) (second_part (id_column ms) (end_column ms) (number_column ms) (start_column ms) (ids_long ms few room) (ends_long ms few room) (numbers_long ms few room) (starts_long ms few room))

  pub numbers_stand : numbers_of w ≡ number_column ms
  unfolding message_columns
  numbers_stand = from_columns signal_limit (message_limit + message_limit) _ (omega arith) (third_part (id_column ms) (end_column ms) (number_column ms) (start_column ms) (ids_long ms few room) (ends_long ms few room) (numbers_long ms few room) (starts_long ms few room))

  pub starts_stand : starts_of w ≡ start_column ms
  unfolding message_columns
  starts_stand = from_columns signal_limit (message_limit + (message_limit + signal_limit)) _ (omega arith) (fourth_part (id_column ms) (end_column ms) (number_column ms) (start_column ms) (ids_long ms few room) (ends_long ms few room) (numbers_long ms few room) (starts_long ms few room))

  pub shows : messages_of w ≡ ms
  unfolding messages_of
  shows =
      rw (
        s.messages,
        s.signals,
        ids_stand,
        ends_stand,
        numbers_stand,
        starts_stand,
        take_column message_limit (length ms) (identifiers ms) (length-map ms (λ (m : Message). m.identifier)),
        take_column message_limit (length ms) (ends_after 0 ms) (length_ends 0 ms),
        take_column signal_limit (length (all_placements ms)) (numbers (all_placements ms)) (length-map (all_placements ms) (λ (p : Placement). p.number)),
        take_column signal_limit (length (all_placements ms)) (placement_starts (all_placements ms)) (length-map (all_placements ms) (λ (p : Placement). p.start)),
        side_back,
      )
      (shown_back 0 ms)

same_equal : (l m : List ℕ) → same l m ≡ true → l ≡ m
unfolding same
same_equal [] [] e = refl
same_equal [] (y ∷ m) e = let z : ◌≡◌ {A = ℕ} 0 1 = cc in absurd (omega arith)
same_equal (x ∷ l) [] e = let z : ◌≡◌ {A = ℕ} 0 1 = cc in absurd (omega arith)
same_equal (x ∷ l) (y ∷ m) e = let h = (and-eq-true_iff (eqb x y) (same l m)).0 e in let a = eqb-true x y h.0 in let b = same_equal l m h.1 in cc

equal_same : (l : List ℕ) → same l l ≡ true
unfolding same
equal_same [] = refl
equal_same (x ∷ l) = (and-eq-true_iff (eqb x x) (same l l)).1 (eq-eqb x x refl, equal_same l)

-- what holds of messages that pass the test
pub record Within (ms : List Message) : Type 0 where
  pub few : length ms ≤ message_limit
  pub room : length (all_placements ms) ≤ signal_limit

pub within : (ms : List Message) → good ms ≡ true → Within ms
unfolding good
within ms g =
    let a = (and-eq-true_iff (good_from [] ms) _).0 g in
    let b = (and-eq-true_iff (leb (length ms) message_limit) _).0 a.1 in
    record { few = leb-true _ _ b.0; room = leb-true _ _ b.1 }

-- words that pass the test are those of the messages that they show, which lines build
pub taken_stands : (w : List ℕ) → messages_taken_spec w ≡ true → Stands w (messages_of w) × (good (messages_of w) ≡ true)
unfolding messages_taken_spec
taken_stands w e =
    let ms = messages_of w in
    let a = (and-eq-true_iff _ (good ms)).0 e in
    let b = (and-eq-true_iff (eqb (message_count_of w) (length ms)) _).0 a.0 in
    let c = (and-eq-true_iff (eqb (signal_count_of w) (length (all_placements ms))) _).0 b.1 in
    (record { messages = eqb-true _ _ b.0; signals = eqb-true _ _ c.0; columns = same_equal _ _ c.1 }, a.1)

-- and words in which good messages stand pass it
pub stands_taken : (w : List ℕ) (ms : List Message) → Stands w ms → good ms ≡ true → messages_taken_spec w ≡ true
unfolding messages_taken_spec
stands_taken w ms s g =
    rw (shows w ms (within ms g).few (within ms g).room s)
    ((and-eq-true_iff _ (good ms)).1 (
      (and-eq-true_iff (eqb (message_count_of w) (length ms)) _).1 (
        eq-eqb _ _ s.messages,
        (and-eq-true_iff (eqb (signal_count_of w) (length (all_placements ms))) _).1 (eq-eqb _ _ s.signals, rw s.columns (equal_same (message_columns ms))),
      ),
      g,
    ))

-- the words of a book have its messages
pub words_stand : (b : Book) → length b.messages ≤ message_limit → length (all_placements b.messages) ≤ signal_limit → Stands (words_of b) b.messages
unfolding words_of
words_stand b few room = record { messages = refl; signals = refl; columns = take_at (message_columns b.messages) (route_columns b.routes) message_words (columns_long b.messages few room) }

pub taken_built : (w : List ℕ) → messages_taken_spec w ≡ true → OfBuilt w
taken_built w e = let t = taken_stands w e in record { shown_messages = messages_of w; built = good_built (messages_of w) t.1; stand = t.0 }

pub built_taken : (w : List ℕ) → OfBuilt w → messages_taken_spec w ≡ true
built_taken w s = stands_taken w s.shown_messages s.stand (built_good s.built)
