-- Why a line is refused, in words that hold a book: one case after the other. Assumes nothing.
use mathlib.Core.Path.{◌≡◌, sym, ◌∙◌}
use mathlib.Core.Bool.{Bool, true, false, ◌||◌, or-true}
use mathlib.Core.List.{List}
use Prim.Native.Nat.{ℕ, suc, ◌≤◌, ◌<◌}
use lib.Dec.{leb}
use lib.ListN.{length, take}
use borrow.Author.Tests.{ne_eqb, le-leb, lt-leb, leb-false}
use Rattle.books.specs.Book.{Placement, Message, Book, identifiers, all_placements, last_placements}
use Rattle.books.specs.Lines.{is_in, unknown_or_over, message_refusal, after_refusal, signal_refusal, route_refusal, identifier_limit, message_limit, bus_limit, route_limit}
use Rattle.books.specs.Words.{words_of}
use Rattle.books.proofs.Tests.{both_false}
use Rattle.record.specs.Columns.{message_count_of, route_count_of, ids_of}
use Rattle.std.specs.Prelude.{Result}
use Rattle.answers.specs.declared.Refusal.{Refusal}
use Rattle.tables.specs.Adding.{Holds, LineJudged, added_number, unless}
use Rattle.tables.proofs.Held.{messages_held, routes_held, ids_held}

-- ---- a line that is refused leaves the words, and one that is taken makes those of the new book
module _ {A : Type 0} (refusal : ℕ) (w : List ℕ) (old new : Book) (r : Result A Refusal) (e : added_number r ≡ refusal) where
  pub stays : (n : ℕ) → refusal ≡ suc n → Holds w old → LineJudged refusal old new r w
  unfolding unless
  stays n f h = record { answer = e; words = rw f h.words }

  pub takes : refusal ≡ 0 → w ≡ words_of new → LineJudged refusal old new r w
  unfolding unless
  takes f g = record { answer = e; words = rw f g }

-- ---- an `M` line
module _ (w : List ℕ) (b : Book) (h : Holds w b) (i count : ℕ) (e : count ≡ message_count_of w) where
  pub message_over : identifier_limit ≤ i → message_refusal b.messages i ≡ 3
  unfolding message_refusal
  message_over g = rw (le-leb _ _ g)

  module _ (g : i < identifier_limit) where
    held : (t : Bool) → is_in i (take count (ids_of w)) ≡ t → is_in i (identifiers b.messages) ≡ t
    held t m = rw (← ids_held w b h, ← e) m

    counted : length b.messages ≡ count
    counted = sym (e ∙ messages_held w b h)

    pub message_again : is_in i (take count (ids_of w)) ≡ true → message_refusal b.messages i ≡ 5
    unfolding message_refusal
    message_again m = rw (lt-leb _ _ g, held true m)

    module _ (m : is_in i (take count (ids_of w)) ≡ false) where
      pub message_full : message_limit ≤ count → message_refusal b.messages i ≡ 9
      unfolding message_refusal
      message_full l = rw (lt-leb _ _ g, held false m, counted, le-leb _ _ l)

      pub message_free : count < message_limit → message_refusal b.messages i ≡ 0
      unfolding message_refusal
      message_free l = rw (lt-leb _ _ g, held false m, counted, lt-leb _ _ l)

-- ---- an `R` line
-- a place that is within the limits
pub inside : (x i : ℕ) → leb bus_limit x || leb identifier_limit i ≡ false → (x < bus_limit) × (i < identifier_limit)
inside x i e = let f = both_false (leb bus_limit x) (leb identifier_limit i) e in (leb-false _ _ f.0, leb-false _ _ f.1)

module _ (w : List ℕ) (b : Book) (h : Holds w b) (x i y j count : ℕ) (e : count ≡ route_count_of w) where
  pub from_over : leb bus_limit x || leb identifier_limit i ≡ true → route_refusal b.routes x i y j ≡ 3
  unfolding route_refusal
  from_over f = rw f

  pub to_over : leb bus_limit y || leb identifier_limit j ≡ true → route_refusal b.routes x i y j ≡ 3
  unfolding route_refusal
  to_over f = rw (f, or-true (leb bus_limit x || leb identifier_limit i))

  module _ (f : leb bus_limit x || leb identifier_limit i ≡ false) (g : leb bus_limit y || leb identifier_limit j ≡ false) where
    pub route_full : route_limit ≤ count → route_refusal b.routes x i y j ≡ 9
    unfolding route_refusal
    route_full l = rw (f, g, sym (e ∙ routes_held w b h), le-leb _ _ l)

    pub route_free : count < route_limit → route_refusal b.routes x i y j ≡ 0
    unfolding route_refusal
    route_free l = rw (f, g, sym (e ∙ routes_held w b h), lt-leb _ _ l)

-- ---- an `S` line
module _ (ms : List Message) (p : Placement) where
  pub signal_unknown : unknown_or_over p ≡ true → signal_refusal ms p ≡ 3
  unfolding signal_refusal
  signal_unknown e = rw e

  module _ (e : unknown_or_over p ≡ false) where
    pub signal_early : length ms ≡ 0 → signal_refusal ms p ≡ 4
    unfolding signal_refusal
    signal_early z = rw (e, z)

    pub signal_later : (length ms ≡ 0 → ⊥) → signal_refusal ms p ≡ after_refusal (last_placements ms) (length (all_placements ms)) p
    unfolding signal_refusal
    signal_later z = rw (e, ne_eqb _ _ z)
