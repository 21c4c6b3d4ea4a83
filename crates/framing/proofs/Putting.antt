-- Counts put into a word: each is read back, every bit outside them stays, and the checksum touches none of them.
-- Assumes nothing.
use mathlib.Core.Path.{◌≡◌, refl, ap, ◌∙◌}
use mathlib.Core.Bool.{Bool, true, false, cond}
use mathlib.Core.Logic.{◌⊎◌, inl, inr, ⊎_elim}
use mathlib.Core.List.{List, [], ◌∷◌}
use Prim.Native.Nat.{ℕ, suc, ◌+◌, ◌^◌, ◌≤◌, ◌<◌}
use native.Mathlib.Omega.{arith}
use lib.Dec.{eqb, leb}
use lib.ListN.{length}
use borrow.Author.Tests.{eqb-true, eqb-false, eq-eqb, ne_eqb, lt-leb, leb-false}
use Rattle.bits.specs.Word.{field_of, placed}
use Rattle.bits.proofs.Placing.{read_back, beside, placed_lt}
use Rattle.books.specs.Book.{Placement}
use Rattle.books.specs.Lines.{frame_bits}
use Rattle.catalogue.specs.Find.{bits_of_spec}
use Rattle.catalogue.specs.Class.{class_of_spec}
use Rattle.std.specs.Prelude.{Result, Ok, Err}
use Rattle.framing.specs.declared.PackRefusal.{PackRefusal}
use Rattle.framing.specs.declared.PackRefusal.TheVariants.{TooWide, ReservedOrOutside}
use Rattle.framing.specs.Messages.{checksum_number}
use Rattle.framing.specs.Packing.{packable, judged_values}
use Rattle.framing.specs.Putting.{put}
use Rattle.framing.proofs.WellPlaced.{BesideAll, WellPlaced}

-- ---- values that are judged good

pub data Accepted : List Placement → List ℕ → Type 0 where
  none : Accepted [] []
  skip : {p : Placement} {ps : List Placement} {v : ℕ} {vs : List ℕ} → p.number ≡ checksum_number → Accepted ps vs → Accepted (p ∷ ps) (v ∷ vs)
  fine : {p : Placement} {ps : List Placement} {v : ℕ} {vs : List ℕ} → (p.number ≡ checksum_number → ⊥) → v < 2 ^ bits_of_spec p.number → packable (class_of_spec p.number (record { 0 = v })) ≡ true
      → Accepted ps vs → Accepted (p ∷ ps) (v ∷ vs)

not_packed : {A : Type 0} {why : PackRefusal} → ◌≡◌ {A = Result (Unit {0}) PackRefusal} (Err why) (Ok tt) → A
not_packed e = let z : ◌≡◌ {A = ℕ} 0 1 = cc in absurd (omega arith)

-- one position: the tests that `judged_values` makes of it
accept : (p : Placement) (ps : List Placement) (v : ℕ) (vs : List ℕ) (a b c : Bool)
    → eqb p.number checksum_number ≡ a → leb (2 ^ bits_of_spec p.number) v ≡ b → packable (class_of_spec p.number (record { 0 = v })) ≡ c
    → (judged_values ps vs ≡ Ok tt → Accepted ps vs)
    → cond a (judged_values ps vs) (cond b (Err TooWide) (cond c (judged_values ps vs) (Err ReservedOrOutside))) ≡ Ok tt → Accepted (p ∷ ps) (v ∷ vs)
accept p ps v vs true b c x y z rest e = Accepted.skip (eqb-true p.number checksum_number x) (rest e)
accept p ps v vs false true c x y z rest e = not_packed e
accept p ps v vs false false true x y z rest e = Accepted.fine (eqb-false p.number checksum_number x) (leb-false (2 ^ bits_of_spec p.number) v y) z (rest e)
accept p ps v vs false false false x y z rest e = not_packed e

pub accepted : (ps : List Placement) (vs : List ℕ) → length vs ≡ length ps → judged_values ps vs ≡ Ok tt → Accepted ps vs
unfolding judged_values
accepted [] [] n e = Accepted.none
accepted [] (v ∷ vs) n e = absurd (omega arith)
accepted (p ∷ ps) [] n e = absurd (omega arith)
accepted (p ∷ ps) (v ∷ vs) n e =
    accept p ps v vs (eqb p.number checksum_number) (leb (2 ^ bits_of_spec p.number) v) (packable (class_of_spec p.number (record { 0 = v }))) refl refl refl
    (accepted ps vs (omega arith)) e

pub accepted_many : {ps : List Placement} {vs : List ℕ} → Accepted ps vs → length vs ≡ length ps
accepted_many Accepted.none = refl
accepted_many (Accepted.skip e a) = ap suc (accepted_many a)
accepted_many (Accepted.fine n h k a) = ap suc (accepted_many a)

passes : (a b c : Bool) (rest : Result (Unit {0}) PackRefusal) → a ≡ false → b ≡ false → c ≡ true → cond a rest (cond b (Err TooWide) (cond c rest (Err ReservedOrOutside))) ≡ rest
passes a b c rest x y z = rw (x, y, z) refl

pub accepted_judged : {ps : List Placement} {vs : List ℕ} → Accepted ps vs → judged_values ps vs ≡ Ok tt
unfolding judged_values
accepted_judged Accepted.none = refl
accepted_judged (Accepted.skip {p} {ps} {v} {vs} e a) = rw (eq-eqb p.number checksum_number e) (accepted_judged a)
accepted_judged (Accepted.fine {p} {ps} {v} {vs} n h k a) =
    passes (eqb p.number checksum_number) (leb (2 ^ bits_of_spec p.number) v) (packable (class_of_spec p.number (record { 0 = v }))) (judged_values ps vs)
    (ne_eqb p.number checksum_number n) (lt-leb (2 ^ bits_of_spec p.number) v h) k
    ∙ accepted_judged a

-- ---- bits outside every count

-- the bits t to t + c belong to no placement but 503's
pub data Off (t c : ℕ) : List Placement → Type 0 where
  none : Off t c []
  more : {p : Placement} {ps : List Placement} → ((p.number ≡ checksum_number → ⊥) → (p.start + bits_of_spec p.number ≤ t) ⊎ (t + c ≤ p.start)) → Off t c ps → Off t c (p ∷ ps)

beside_off : {q : Placement} {ps : List Placement} → BesideAll q ps → Off q.start (bits_of_spec q.number) ps
beside_off BesideAll.none = Off.none
beside_off (BesideAll.more b bs) = Off.more (λ _. ⊎_elim inr inl b) (beside_off bs)

-- they stay
pub put_keeps : (w t c : ℕ) {ps : List Placement} {vs : List ℕ} → Accepted ps vs → Off t c ps → field_of (put w ps vs) t c ≡ field_of w t c
unfolding put
put_keeps w t c Accepted.none Off.none = refl
put_keeps w t c (Accepted.skip {p} {ps} {v} {vs} e a) (Off.more o os) = rw (eq-eqb p.number checksum_number e) (put_keeps w t c a os)
put_keeps w t c (Accepted.fine {p} {ps} {v} {vs} n h k a) (Off.more o os) =
    rw (ne_eqb p.number checksum_number n)
    (put_keeps (placed w p.start (bits_of_spec p.number) v) t c a os ∙ beside w p.start (bits_of_spec p.number) v h t c (o n))

-- and a word of as many bits as a frame stays one
pub put_lt : (w : ℕ) {ps : List Placement} {vs : List ℕ} → WellPlaced ps → Accepted ps vs → w < 2 ^ frame_bits → put w ps vs < 2 ^ frame_bits
unfolding put
put_lt w s Accepted.none hw = hw
put_lt w (WellPlaced.more sits b s) (Accepted.skip {p} {ps} {v} {vs} e a) hw = rw (eq-eqb p.number checksum_number e) (put_lt w s a hw)
put_lt w (WellPlaced.more sits b s) (Accepted.fine {p} {ps} {v} {vs} n h k a) hw =
    rw (ne_eqb p.number checksum_number n)
    (put_lt (placed w p.start (bits_of_spec p.number) v) s a (placed_lt w p.start (bits_of_spec p.number) v h frame_bits sits.fits.inside hw))

-- ---- each count is read back

-- a word that has each value but that of 503 at its place
pub data Has (w : ℕ) : List Placement → List ℕ → Type 0 where
  none : Has w [] []
  more : {p : Placement} {ps : List Placement} {v : ℕ} {vs : List ℕ} → ((p.number ≡ checksum_number → ⊥) → field_of w p.start (bits_of_spec p.number) ≡ v)
      → Has w ps vs → Has w (p ∷ ps) (v ∷ vs)

pub put_has : (w : ℕ) {ps : List Placement} {vs : List ℕ} → WellPlaced ps → Accepted ps vs → Has (put w ps vs) ps vs
unfolding put
put_has w WellPlaced.none Accepted.none = Has.none
put_has w (WellPlaced.more sits b s) (Accepted.skip {p} {ps} {v} {vs} e a) = rw (eq-eqb p.number checksum_number e) (Has.more (λ n. absurd (n e)) (put_has w s a))
put_has w (WellPlaced.more sits b s) (Accepted.fine {p} {ps} {v} {vs} n h k a) =
    let w' = placed w p.start (bits_of_spec p.number) v in
    rw (ne_eqb p.number checksum_number n)
    (Has.more (λ _. put_keeps w' p.start (bits_of_spec p.number) a (beside_off b) ∙ read_back w p.start (bits_of_spec p.number) v h) (put_has w' s a))
