-- What the book's rules make of a message's placements: each lies within the frame, 503 at its start, and no two meet.
-- Assumes nothing.
use mathlib.Core.Path.{◌≡◌, refl, sym, ap, ◌∙◌, subst}
use mathlib.Core.Bool.{Bool, true, false, cond, ◌&&◌, ◌||◌, not, and-eq-true_iff, or_assoc}
use mathlib.Core.Logic.{◌⊎◌, inl, inr}
use mathlib.Core.List.{List, [], ◌∷◌, ◌++◌}
use mathlib.Core.Option.{Option, some}
use Prim.Native.Nat.{ℕ, zero, suc, ◌+◌, ◌≤◌, ◌<◌}
use native.Mathlib.Nat.{not-suc-le-zero, le_of_suc-le-suc}
use native.Mathlib.Omega.{arith}
use lib.Dec.{eqb, ltb, leb}
use lib.ListN.{length, get_or}
use borrow.Author.Tests.{ltb-false, eqb-true, eqb-false, eq-eqb}
use Rattle.bits.specs.Word.{Fits}
use Rattle.books.specs.Book.{Placement, Message, numbers}
use Rattle.books.specs.Lines.{is_in, unknown_or_over, misplaced, meets, meets_earlier, frame_bits, identifier_limit, start_limit}
use Rattle.books.specs.Good.{good_after, good_from, good}
use Rattle.books.proofs.Tests.{neither, both_false}
use Rattle.catalogue.specs.Find.{bits_of_spec}
use Rattle.catalogue.proofs.Found.{few_bits}
use Rattle.framing.specs.Messages.{checksum_number, checksum_start, message_with}

-- a placement within the frame, and 503 at its start
pub record Sits (p : Placement) : Type 0 where
  pub fits : Fits p.start (bits_of_spec p.number)
  pub check : p.number ≡ checksum_number → p.start ≡ checksum_start

-- two placements have no bit in common
abbrev pub Beside : Placement → Placement → Type 0
Beside q p = (q.start + bits_of_spec q.number ≤ p.start) ⊎ (p.start + bits_of_spec p.number ≤ q.start)

pub data BesideAll (q : Placement) : List Placement → Type 0 where
  none : BesideAll q []
  more : {p : Placement} {ps : List Placement} → Beside q p → BesideAll q ps → BesideAll q (p ∷ ps)

pub data WellPlaced : List Placement → Type 0 where
  none : WellPlaced []
  more : {p : Placement} {ps : List Placement} → Sits p → BesideAll p ps → WellPlaced ps → WellPlaced (p ∷ ps)

-- the i-th placement of a sound message lies within the frame
pub sits_at : {ps : List Placement} → WellPlaced ps → (d : Placement) (i : ℕ) → i < length ps → Sits (get_or ps i d)
sits_at WellPlaced.none d i h = absurd (not-suc-le-zero h)
sits_at (WellPlaced.more s b r) d zero h = s
sits_at (WellPlaced.more s b r) d (suc i) h = sits_at r d i (le_of_suc-le-suc h)

-- ---- from the tests of a book

apart : (p q : Placement) → meets p q ≡ false → Beside q p
unfolding meets
apart p q e = go (ltb p.start (q.start + bits_of_spec q.number)) refl e
  where
    go : (a : Bool) → ltb p.start (q.start + bits_of_spec q.number) ≡ a → a && ltb q.start (p.start + bits_of_spec p.number) ≡ false → Beside q p
    go true h e = inr (ltb-false q.start (p.start + bits_of_spec p.number) e)
    go false h e = inl (ltb-false p.start (q.start + bits_of_spec q.number) h)

earlier_append : (a b : List Placement) (p : Placement) → meets_earlier (a ++ b) p ≡ meets_earlier a p || meets_earlier b p
unfolding meets_earlier
earlier_append [] b p = refl
earlier_append (q ∷ a) b p = ap (λ (x : Bool). meets p q || x) (earlier_append a b p) ∙ sym (or_assoc (meets p q) (meets_earlier a p) (meets_earlier b p))

earlier_split : (a : List Placement) (q p : Placement) → meets_earlier (a ++ (q ∷ [])) p ≡ false → (meets_earlier a p ≡ false) × (meets p q ≡ false)
unfolding meets_earlier
earlier_split a q p e =
    let h = both_false (meets_earlier a p) (meets p q || false) (sym (earlier_append a (q ∷ []) p) ∙ e) in
    (h.0, (both_false (meets p q) false h.1).0)

-- what the tests of one placement after others say
record Passed (before : List Placement) (p : Placement) : Type 0 where
  known : unknown_or_over p ≡ false
  inside : misplaced p ≡ false
  beside : meets_earlier before p ≡ false

passed : (before : List Placement) (p : Placement)
    → not (unknown_or_over p || (is_in p.number (numbers before) || (misplaced p || meets_earlier before p))) ≡ true → Passed before p
passed before p e =
    let a = neither (unknown_or_over p) (is_in p.number (numbers before) || (misplaced p || meets_earlier before p)) e in
    let b = both_false (is_in p.number (numbers before)) (misplaced p || meets_earlier before p) a.1 in
    let c = both_false (misplaced p) (meets_earlier before p) b.1 in
    record { known = a.0; inside = c.0; beside = c.1 }

sits : {before : List Placement} (p : Placement) → Passed before p → Sits p
unfolding unknown_or_over misplaced
sits p h =
    let a = both_false (eqb (bits_of_spec p.number) 0) (leb start_limit p.start) h.known in
    let some : bits_of_spec p.number ≡ 0 → ⊥ = eqb-false (bits_of_spec p.number) 0 a.0 in
    let c = both_false (ltb frame_bits (p.start + bits_of_spec p.number)) _ h.inside in
    let d = both_false (eqb p.number checksum_number && not (eqb p.start checksum_start)) _ c.1 in
    record {
      fits = record { some = omega arith; most = few_bits p.number; inside = ltb-false frame_bits (p.start + bits_of_spec p.number) c.0 };
      check = λ e. eqb-true p.start checksum_start (go (eqb p.number checksum_number) (eqb p.start checksum_start) (eq-eqb p.number checksum_number e) d.0);
    }
  where
    go : (a b : Bool) → a ≡ true → a && not b ≡ false → b ≡ true
    go true true e f = refl
    go true false e f = sym f
    go false b e f = (cc)

later : (q : Placement) (before ps : List Placement) → ((p : Placement) → meets_earlier before p ≡ false → Beside q p) → good_after before ps ≡ true → BesideAll q ps
unfolding good_after
later q before [] h g = BesideAll.none
later q before (p ∷ ps) h g =
    let t = (and-eq-true_iff _ (good_after (before ++ (p ∷ [])) ps)).0 g in
    BesideAll.more (h p (passed before p t.0).beside) (later q (before ++ (p ∷ [])) ps (λ x e. h x (earlier_split before p x e).0) t.1)

sound_after : (before ps : List Placement) → good_after before ps ≡ true → WellPlaced ps
unfolding good_after
sound_after before [] g = WellPlaced.none
sound_after before (p ∷ ps) g =
    let t = (and-eq-true_iff _ (good_after (before ++ (p ∷ [])) ps)).0 g in
    WellPlaced.more (sits p (passed before p t.0))
    (later p (before ++ (p ∷ [])) ps (λ x e. apart x p (earlier_split before p x e).1) t.1)
    (sound_after (before ++ (p ∷ [])) ps t.1)

pick : (b : Bool) (x m : Message) {o : Option Message} → WellPlaced x.placements → (o ≡ some m → WellPlaced m.placements) → cond b (some x) o ≡ some m → WellPlaced m.placements
pick true x m s f e = let h : x ≡ m = (cc) in subst (λ (y : Message). WellPlaced y.placements) h s
pick false x m s f e = f e

sound_from : (before : List ℕ) (identifier : ℕ) (ms : List Message) (m : Message) → good_from before ms ≡ true → message_with identifier ms ≡ some m → WellPlaced m.placements
unfolding good_from message_with
sound_from before identifier [] m g e = let z : ◌≡◌ {A = ℕ} 0 1 = cc in absurd (omega arith)
sound_from before identifier (x ∷ ms) m g e =
    let t = (and-eq-true_iff (not (leb identifier_limit x.identifier || is_in x.identifier before)) (good_after [] x.placements && good_from (before ++ (x.identifier ∷ [])) ms)).0 g in
    let u = (and-eq-true_iff (good_after [] x.placements) (good_from (before ++ (x.identifier ∷ [])) ms)).0 t.1 in
    pick (eqb identifier x.identifier) x m (sound_after [] x.placements u.0)
    (λ f. sound_from (before ++ (x.identifier ∷ [])) identifier ms m u.1 f) e

-- the message that a taken book has for an identifier
pub sound_message : (identifier : ℕ) (ms : List Message) (m : Message) → good ms ≡ true → message_with identifier ms ≡ some m → WellPlaced m.placements
unfolding good
sound_message identifier ms m g e = sound_from [] identifier ms m ((and-eq-true_iff (good_from [] ms) _).0 g).0 e
