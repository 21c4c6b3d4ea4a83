-- A message of a taken book has at most 64 signals, as each has a frame bit of its own to start at: so 64 readings are always room
-- enough. Assumes nothing.
use mathlib.Core.Path.{◌≡◌, refl, ap, subst}
use mathlib.Core.Bool.{Bool, true, false, cond}
use mathlib.Core.Logic.{⊎_elim}
use mathlib.Core.List.{List, [], ◌∷◌}
use mathlib.Core.Option.{Option, none, some}
use Prim.Native.Nat.{ℕ, zero, suc, ◌≤◌}
use native.Mathlib.Omega.{arith}
use lib.Dec.{eqb, leb, ltb}
use lib.ListN.{length}
use borrow.Author.Tests.{ltb-true, ltb-false, le-leb}
use Rattle.books.specs.Book.{Placement, Message}
use Rattle.books.specs.Lines.{frame_bits}
use Rattle.books.specs.Words.{messages_of, messages_taken_spec}
use Rattle.books.proofs.Columns.{taken_stands}
use Rattle.bits.specs.Frame.{frame_bytes}
use Rattle.std.specs.Prelude.{Result, Ok, Err}
use Rattle.framing.specs.declared.ReadRefusal.{ReadRefusal}
use Rattle.framing.specs.declared.ReadRefusal.TheVariants.{NotABook, NotEightBytes, WrongChecksum, TooLittleRoom}
use Rattle.framing.specs.Messages.{message_with}
use Rattle.framing.specs.Reading.{Slices, checksum_holds, room, readings, read_by_message, read_by_messages, reading, reading_number}
use Rattle.framing.proofs.WellPlaced.{Sits, BesideAll, WellPlaced, sound_message}

-- how many placements start below n
below : ℕ → List Placement → ℕ
below n [] = 0
below n (p ∷ ps) = cond (ltb p.start n) (suc (below n ps)) (below n ps)

none_below : (ps : List Placement) → below 0 ps ≡ 0
unfolding below
none_below [] = refl
none_below (p ∷ ps) = go (ltb p.start 0) refl (none_below ps)
  where
    go : (b : Bool) → ltb p.start 0 ≡ b → below 0 ps ≡ 0 → cond b (suc (below 0 ps)) (below 0 ps) ≡ 0
    go true e h = let z = ltb-true p.start 0 e in absurd (omega arith)
    go false e h = h

all_below_law : {ps : List Placement} → WellPlaced ps → below frame_bits ps ≡ length ps
unfolding below
all_below_law WellPlaced.none = refl
all_below_law (WellPlaced.more {p} {ps} s b r) = go (ltb p.start frame_bits) refl (all_below_law r)
  where
    go : (t : Bool) → ltb p.start frame_bits ≡ t → below frame_bits ps ≡ length ps → cond t (suc (below frame_bits ps)) (below frame_bits ps) ≡ suc (length ps)
    go true e h = ap suc h
    go false e h = let z = ltb-false p.start frame_bits e in absurd (omega (arith, s.fits.some, s.fits.inside))

-- no other starts where q does
none_there : {q : Placement} {ps : List Placement} → Sits q → BesideAll q ps → WellPlaced ps → below (suc q.start) ps ≡ below q.start ps
unfolding below
none_there sq BesideAll.none WellPlaced.none = refl
none_there {q} sq (BesideAll.more {p} {ps} b bs) (WellPlaced.more sp _ r) =
    go (ltb p.start (suc q.start)) (ltb p.start q.start) refl refl (none_there sq bs r)
  where
    go : (x y : Bool) → ltb p.start (suc q.start) ≡ x → ltb p.start q.start ≡ y → below (suc q.start) ps ≡ below q.start ps
        → cond x (suc (below (suc q.start) ps)) (below (suc q.start) ps) ≡ cond y (suc (below q.start ps)) (below q.start ps)
    go true true d e h = ap suc h
    go true false d e h =
        let z = ltb-true p.start (suc q.start) d in
        let w = ltb-false p.start q.start e in
        absurd (⊎_elim (λ k. omega (arith, sq.fits.some)) (λ k. omega (arith, sp.fits.some)) b)
    go false true d e h =
        let z = ltb-false p.start (suc q.start) d in
        let w = ltb-true p.start q.start e in
        absurd (omega arith)
    go false false d e h = h

-- so at most one starts at n
one_more : (n : ℕ) {ps : List Placement} → WellPlaced ps → below (suc n) ps ≤ suc (below n ps)
unfolding below
one_more n WellPlaced.none = omega arith
one_more n (WellPlaced.more {p} {ps} s b r) = go (ltb p.start (suc n)) (ltb p.start n) refl refl (one_more n r)
  where
    go : (x y : Bool) → ltb p.start (suc n) ≡ x → ltb p.start n ≡ y → below (suc n) ps ≤ suc (below n ps)
        → cond x (suc (below (suc n) ps)) (below (suc n) ps) ≤ suc (cond y (suc (below n ps)) (below n ps))
    go true true d e h = omega arith
    go true false d e h =
        let z = ltb-true p.start (suc n) d in
        let w = ltb-false p.start n e in
        let at : p.start ≡ n = omega arith in
        let same : below (suc n) ps ≡ below n ps = subst (λ (k : ℕ). below (suc k) ps ≡ below k ps) at (none_there s b r) in
        omega arith
    go false true d e h = omega arith
    go false false d e h = h

few_below : (n : ℕ) {ps : List Placement} → WellPlaced ps → below n ps ≤ n
few_below zero {ps} s = omega (arith, none_below ps)
few_below (suc n) s = omega (arith, one_more n s, few_below n s)

few : {ps : List Placement} → WellPlaced ps → length ps ≤ frame_bits
few s = omega (arith, few_below frame_bits s, all_below_law s)

-- no message of a taken book has more than 64 signals
pub few_signals : (words : List ℕ) (identifier : ℕ) (m : Message) → messages_taken_spec words ≡ true → message_with identifier (messages_of words) ≡ some m → length m.placements ≤ frame_bits
few_signals words identifier m t found = few (sound_message identifier (messages_of words) m (taken_stands words t).1 found)

enough : (o : Option Message) (frame : List ℕ) (lent : Slices) → ((m : Message) → o ≡ some m → length m.placements ≤ room lent) → reading_number (read_by_message o frame lent).0 ≡ reading_number (Err TooLittleRoom) → ⊥
unfolding read_by_message
enough none frame lent h e = omega arith
enough (some m) frame lent h e = go (checksum_holds m frame) (leb (length m.placements) (room lent)) (le-leb (length m.placements) (room lent) (h m refl)) e
  where
    go : (a b : Bool) → b ≡ true
        → reading_number (cond {A = Result ℕ ReadRefusal × Slices} a (cond b (Ok (length m.placements), readings frame m.placements lent) (Err TooLittleRoom, lent)) (Err WrongChecksum, lent)).0 ≡ 24 → ⊥
    go a false k e = let z : ◌≡◌ {A = ℕ} 0 1 = cc in omega arith
    go true true k e = omega arith
    go false true k e = omega arith

-- and slices with room for 64 readings are never too small (24)
pub room_enough : (words : List ℕ) (identifier : ℕ) (frame : List ℕ) (lent : Slices) → frame_bits ≤ room lent
    → reading_number (reading words identifier frame lent).0 ≡ reading_number (Err TooLittleRoom) → ⊥
unfolding reading read_by_messages
room_enough words identifier frame lent h e = go (messages_taken_spec words) (eqb (length frame) frame_bytes) refl e
  where
    go : (a b : Bool) → messages_taken_spec words ≡ a
        → reading_number (cond {A = Result ℕ ReadRefusal × Slices} a (cond b (read_by_message (message_with identifier (messages_of words)) frame lent) (Err NotEightBytes, lent)) (Err NotABook, lent)).0 ≡ 24 → ⊥
    go true true t e = enough (message_with identifier (messages_of words)) frame lent (λ m found. omega (arith, few_signals words identifier m t found)) e
    go true false t e = omega arith
    go false b t e = omega arith
