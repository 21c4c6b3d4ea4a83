-- Each call for a book's text has one answer and no other, whatever the words and the room. Assumes nothing.
use mathlib.Core.Path.{◌≡◌, refl, ap, sym, ◌∙◌}
use mathlib.Core.Bool.{Bool, true, false, true≢false}
use Prim.Native.Nat.{ℕ, ◌≤◌}
use native.Mathlib.Omega.{arith}
use native.Mathlib.Decide.{dec_le}
use mathlib.Core.List.{List, ◌++◌}
use lib.ListN.{length, drop}
use Rattle.books.specs.Words.{messages_taken_spec}
use Rattle.route_tables.specs.Tables.{RoutesTaken}
use Rattle.route_tables.proofs.Decided as routes
use Rattle.book_writer.specs.Answers.{wrote_number, byte_count, text_of, TablesTaken, WriteBy, no_room, writes, WriteAnswer, not_a_book, by_tables}
use Rattle.std.specs.Prelude.{Result, Ok, Err}
use Rattle.book_writer.specs.declared.WriteRefusal.{WriteRefusal}
use Rattle.book_writer.specs.declared.WriteRefusal.TheVariants.{NotABook, NoRoom}

-- an answer is told by its number and its count
wrote_once : (a b : Result ℕ WriteRefusal) → wrote_number a ≡ wrote_number b → byte_count a ≡ byte_count b → a ≡ b
wrote_once (Ok n) (Ok m) e f = ap (λ (k : ℕ). Ok k) f
wrote_once (Ok n) (Err NotABook) e f = absurd (omega arith)
wrote_once (Ok n) (Err NoRoom) e f = absurd (omega arith)
wrote_once (Err NotABook) (Ok m) e f = absurd (omega arith)
wrote_once (Err NotABook) (Err NotABook) e f = refl
wrote_once (Err NotABook) (Err NoRoom) e f = absurd (omega arith)
wrote_once (Err NoRoom) (Ok m) e f = absurd (omega arith)
wrote_once (Err NoRoom) (Err NotABook) e f = absurd (omega arith)
wrote_once (Err NoRoom) (Err NoRoom) e f = refl

pub tables_or_not : (w : List ℕ) → Dec (TablesTaken w)
tables_or_not w = go (messages_taken_spec w) refl (routes.taken_or_not w)
  where
    go : (m : Bool) → messages_taken_spec w ≡ m → Dec (RoutesTaken w) → Dec (TablesTaken w)
    go true e (yes r) = yes (record { messages = e; routes = r })
    go true e (no n) = no (λ t. n t.routes)
    go false e r = no (λ t. true≢false (sym t.messages ∙ e))

-- the answer's number, its count and the room after it
abbrev pub WriteLeft : Type 0
WriteLeft = ℕ × (ℕ × List ℕ)

module _ (w room : List ℕ) where
  -- by tables that are tested
  by_once : {y n : ℕ} {a : List ℕ} {z m : ℕ} {b : List ℕ} → WriteBy w room y n a → WriteBy w room z m b → ◌≡◌ {A = WriteLeft} (y, (n, a)) (z, (m, b))
  by_once (no_room l) (no_room k) = refl
  by_once (no_room l) (writes k) = absurd (omega arith)
  by_once (writes l) (no_room k) = absurd (omega arith)
  by_once (writes l) (writes k) = refl

  -- there is an answer
  pub answered : (x : Result ℕ WriteRefusal × List ℕ) × WriteAnswer w room (wrote_number x.0) (byte_count x.0) x.1
  answered = go (tables_or_not w) (dec_le (length (text_of w)) (length room))
    where
      go : Dec (TablesTaken w) → Dec (length (text_of w) ≤ length room) → (x : Result ℕ WriteRefusal × List ℕ) × WriteAnswer w room (wrote_number x.0) (byte_count x.0) x.1
      go (no n) r = ((Err NotABook, room), not_a_book n)
      go (yes t) (no n) = ((Err NoRoom, room), by_tables t (no_room (omega arith)))
      go (yes t) (yes l) = ((Ok (length (text_of w)), text_of w ++ drop (length (text_of w)) room), by_tables t (writes l))

  -- and no other
  pub answer_once : {y n : ℕ} {a : List ℕ} {z m : ℕ} {b : List ℕ} → WriteAnswer w room y n a → WriteAnswer w room z m b → ◌≡◌ {A = WriteLeft} (y, (n, a)) (z, (m, b))
  answer_once (not_a_book x) (not_a_book y) = refl
  answer_once (not_a_book x) (by_tables t q) = absurd (x t)
  answer_once (by_tables t p) (not_a_book y) = absurd (y t)
  answer_once (by_tables t p) (by_tables u q) = by_once p q

pub same_wrote : {x y : Result ℕ WriteRefusal × List ℕ} → ◌≡◌ {A = WriteLeft} (wrote_number x.0, (byte_count x.0, x.1)) (wrote_number y.0, (byte_count y.0, y.1)) → x ≡ y
same_wrote {x} {y} e i = (wrote_once x.0 y.0 (ap (λ (l : WriteLeft). l.0) e) (ap (λ (l : WriteLeft). l.1.0) e) i, (e i).1.1)
