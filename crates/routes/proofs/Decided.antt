-- Each call for a spread has one answer and no other, whatever the words, the place and the room. Assumes nothing.
use mathlib.Core.Path.{◌≡◌, refl, sym, ap}
use Prim.Native.Nat.{ℕ, ◌≤◌}
use native.Mathlib.Omega.{arith}
use native.Mathlib.Decide.{dec_le}
use mathlib.Core.List.{List, ◌++◌}
use lib.ListN.{length, drop}
use Rattle.std.specs.Prelude.{Result, Ok, Err}
use Rattle.record.specs.Limits.{bus_limit, identifier_limit}
use Rattle.books.specs.Book.{Route}
use Rattle.books.specs.Words.{routes_of}
use Rattle.route_tables.specs.Tables.{RoutesTaken}
use Rattle.route_tables.proofs.Decided.{taken_or_not}
use Rattle.routes.specs.Answers.{spread_refusal_number, sent_number, place_count, IsPlace, spread_along, SpreadBy, no_place, no_room, spreads, SpreadAnswer, not_a_book, by_routes}
use Rattle.routes.specs.declared.SpreadRefusal.{SpreadRefusal}
use Rattle.routes.specs.declared.SpreadRefusal.TheVariants.{NotABook, NoSuchPlace, NoRoom}

place_or_not : (bus identifier : ℕ) → Dec (IsPlace bus identifier)
place_or_not bus identifier = go (dec_le bus_limit bus) (dec_le identifier_limit identifier)
  where
    go : Dec (bus_limit ≤ bus) → Dec (identifier_limit ≤ identifier) → Dec (IsPlace bus identifier)
    go (yes a) b = no (λ p. omega (arith, p.on_bus))
    go (no a) (yes b) = no (λ p. omega (arith, p.identified))
    go (no a) (no b) = yes (record { on_bus = omega arith; identified = omega arith })

-- what a call returns
abbrev pub Sent : Type 0
Sent = Result ℕ SpreadRefusal

refusal_once : (a b : SpreadRefusal) → spread_refusal_number a ≡ spread_refusal_number b → a ≡ b
refusal_once NotABook NotABook e = refl
refusal_once NotABook NoSuchPlace e = absurd (omega arith)
refusal_once NotABook NoRoom e = absurd (omega arith)
refusal_once NoSuchPlace NotABook e = absurd (omega arith)
refusal_once NoSuchPlace NoSuchPlace e = refl
refusal_once NoSuchPlace NoRoom e = absurd (omega arith)
refusal_once NoRoom NotABook e = absurd (omega arith)
refusal_once NoRoom NoSuchPlace e = absurd (omega arith)
refusal_once NoRoom NoRoom e = refl

refused : (a : SpreadRefusal) → spread_refusal_number a ≡ 0 → ⊥
refused NotABook e = omega arith
refused NoSuchPlace e = omega arith
refused NoRoom e = omega arith

-- an answer is told by its number and its count
sent_once : (a b : Sent) → sent_number a ≡ sent_number b → place_count a ≡ place_count b → a ≡ b
sent_once (Ok n) (Ok m) e f = ap Ok f
sent_once (Ok n) (Err b) e f = absurd (refused b (sym e))
sent_once (Err a) (Ok m) e f = absurd (refused a e)
sent_once (Err a) (Err b) e f = ap Err (refusal_once a b e)

-- the answer, its count and the room after it
abbrev pub SpreadLeft : Type 0
SpreadLeft = ℕ × (ℕ × List ℕ)

module _ (rs : List Route) (bus identifier : ℕ) (room : List ℕ) where
  abbrev s : List ℕ
  s = spread_along rs bus identifier

  -- by a table there is an answer
  by_table : (x : Sent × List ℕ) × SpreadBy rs bus identifier room (sent_number x.0) (place_count x.0) x.1
  by_table = go (place_or_not bus identifier) (dec_le (length s) (length room))
    where
      go : Dec (IsPlace bus identifier) → Dec (length s ≤ length room) → (x : Sent × List ℕ) × SpreadBy rs bus identifier room (sent_number x.0) (place_count x.0) x.1
      go (no n) r = ((Err NoSuchPlace, room), no_place n)
      go (yes p) (no n) = ((Err NoRoom, room), no_room p (omega arith))
      go (yes p) (yes l) = ((Ok (length s), s ++ drop (length s) room), spreads p l)

  -- and no other
  by_table_once : {y n : ℕ} {a : List ℕ} {z m : ℕ} {b : List ℕ} → SpreadBy rs bus identifier room y n a → SpreadBy rs bus identifier room z m b → ◌≡◌ {A = SpreadLeft} (y, (n, a)) (z, (m, b))
  by_table_once (no_place x) (no_place y) = refl
  by_table_once (no_place x) (no_room p l) = absurd (x p)
  by_table_once (no_place x) (spreads p l) = absurd (x p)
  by_table_once (no_room p l) (no_place y) = absurd (y p)
  by_table_once (no_room p l) (no_room q m) = refl
  by_table_once (no_room p l) (spreads q m) = absurd (omega arith)
  by_table_once (spreads p l) (no_place y) = absurd (y p)
  by_table_once (spreads p l) (no_room q m) = absurd (omega arith)
  by_table_once (spreads p l) (spreads q m) = refl

module _ (w : List ℕ) (bus identifier : ℕ) (room : List ℕ) where
  pub answered : (x : Sent × List ℕ) × SpreadAnswer w bus identifier room (sent_number x.0) (place_count x.0) x.1
  answered = go (taken_or_not w)
    where
      go : Dec (RoutesTaken w) → (x : Sent × List ℕ) × SpreadAnswer w bus identifier room (sent_number x.0) (place_count x.0) x.1
      go (no n) = ((Err NotABook, room), not_a_book n)
      go (yes t) = let b = by_table (routes_of w) bus identifier room in (b.0, by_routes t b.1)

  pub answer_once : {y n : ℕ} {a : List ℕ} {z m : ℕ} {b : List ℕ} → SpreadAnswer w bus identifier room y n a → SpreadAnswer w bus identifier room z m b → ◌≡◌ {A = SpreadLeft} (y, (n, a)) (z, (m, b))
  answer_once (not_a_book x) (not_a_book y) = refl
  answer_once (not_a_book x) (by_routes t b) = absurd (x t)
  answer_once (by_routes t a) (not_a_book y) = absurd (y t)
  answer_once (by_routes t a) (by_routes u b) = by_table_once (routes_of w) bus identifier room a b

-- so the call leaves one outcome
pub same_sent : {r q : Sent} {a b : List ℕ} → ◌≡◌ {A = SpreadLeft} (sent_number r, (place_count r, a)) (sent_number q, (place_count q, b)) → ◌≡◌ {A = Sent × List ℕ} (r, a) (q, b)
same_sent {r} {q} {a} {b} e =
    let x : r ≡ q = sent_once r q (ap (λ (l : SpreadLeft). l.0) e) (ap (λ (l : SpreadLeft). l.1.0) e) in
    let y : a ≡ b = ap (λ (l : SpreadLeft). l.1.1) e in
    λ i. (x i, y i)
