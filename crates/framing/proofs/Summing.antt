-- The checksum put in last: it lies beside every other count of a message that places it, so they stay.
-- Assumes nothing.
use mathlib.Core.Path.{◌≡◌, refl, sym, ap, ◌∙◌}
use mathlib.Core.Bool.{Bool, true, false, cond, ◌||◌}
use mathlib.Core.Logic.{◌⊎◌, inl, inr, ⊎_elim}
use mathlib.Core.List.{List, [], ◌∷◌}
use Prim.Native.Nat.{ℕ, ◌+◌, ◌^◌, ◌≤◌, ◌<◌}
use native.Mathlib.Nat.{mod-lt, lt_of_lt_of_le}
use native.Mathlib.Omega.{arith}
use lib.Dec.{eqb, lit<, lit≤}
use borrow.Author.Tests.{eqb-true}
use Rattle.bits.specs.Word.{field_of, placed, bytes_of}
use Rattle.bits.specs.Checksum.{checksum_of}
use Rattle.bits.proofs.Placing.{read_back, beside, placed_lt}
use Rattle.bits.proofs.Summing.{checksum_kept}
use Rattle.books.specs.Book.{Placement, numbers}
use Rattle.books.specs.Lines.{is_in, frame_bits}
use Rattle.catalogue.specs.Find.{bits_of_spec, row_of}
use Rattle.rows.specs.Rows.{rows}
use Rattle.framing.specs.Messages.{checksum_number, checksum_start, checksum_bits, places_checksum}
use Rattle.framing.specs.Putting.{with_checksum}
use Rattle.framing.proofs.WellPlaced.{Sits, Beside, BesideAll, WellPlaced}
use Rattle.framing.proofs.Putting.{Has}

bits_503 : bits_of_spec checksum_number ≡ checksum_bits
unfolding bits_of_spec row_of rows
bits_503 = refl

-- 503's place is the frame's last four bits
pub check_bits : (p : Placement) → p.number ≡ checksum_number → bits_of_spec p.number ≡ checksum_bits
check_bits p e = ap bits_of_spec e ∙ bits_503

-- every placement but 503's ends below it
pub data Clear : List Placement → Type 0 where
  none : Clear []
  more : {p : Placement} {ps : List Placement} → ((p.number ≡ checksum_number → ⊥) → p.start + bits_of_spec p.number ≤ checksum_start) → Clear ps → Clear (p ∷ ps)

-- a placement beside 503's ends below it
below : (p q : Placement) → Sits p → Sits q → q.number ≡ checksum_number → Beside p q → p.start + bits_of_spec p.number ≤ checksum_start
below p q sp sq e b =
    let s : q.start ≡ checksum_start = sq.check e in
    let w : bits_of_spec q.number ≡ checksum_bits = check_bits q e in
    ⊎_elim (λ h. omega arith) (λ h. absurd (omega (arith, sp.fits.some, sp.fits.inside))) b

turned : (p q : Placement) → Beside q p → Beside p q
turned p q b = ⊎_elim inr inl b

after_check : {q : Placement} {ps : List Placement} → Sits q → q.number ≡ checksum_number → BesideAll q ps → WellPlaced ps → Clear ps
after_check sq e BesideAll.none WellPlaced.none = Clear.none
after_check {q} sq e (BesideAll.more {p} {ps} b bs) (WellPlaced.more sp _ s) = Clear.more (λ _. below p q sp sq e (turned p q b)) (after_check sq e bs s)

before_check : {p : Placement} {ps : List Placement} → Sits p → BesideAll p ps → WellPlaced ps → is_in checksum_number (numbers ps) ≡ true → p.start + bits_of_spec p.number ≤ checksum_start
unfolding is_in
before_check sp BesideAll.none WellPlaced.none h = let z : ◌≡◌ {A = ℕ} 0 1 = cc in absurd (omega arith)
before_check {p} sp (BesideAll.more {p = q} {ps} b bs) (WellPlaced.more sq _ s) h =
    go (eqb checksum_number q.number) refl h (before_check sp bs s)
  where
    go : (t : Bool) → eqb checksum_number q.number ≡ t → t || is_in checksum_number (numbers ps) ≡ true → (is_in checksum_number (numbers ps) ≡ true → p.start + bits_of_spec p.number ≤ checksum_start)
        → p.start + bits_of_spec p.number ≤ checksum_start
    go true e h rest = below p q sp sq (sym (eqb-true checksum_number q.number e)) b
    go false e h rest = rest h

pub clear : {ps : List Placement} → WellPlaced ps → places_checksum ps ≡ true → Clear ps
unfolding is_in
clear WellPlaced.none h = Clear.none
clear (WellPlaced.more {p} {ps} sp b s) h = go (eqb checksum_number p.number) refl h (clear s)
  where
    go : (t : Bool) → eqb checksum_number p.number ≡ t → t || is_in checksum_number (numbers ps) ≡ true → (places_checksum ps ≡ true → Clear ps) → Clear (p ∷ ps)
    go true e h rest = let x : p.number ≡ checksum_number = sym (eqb-true checksum_number p.number e) in Clear.more (λ n. absurd (n x)) (after_check sp x b s)
    go false e h rest = Clear.more (λ _. before_check sp b s h) (rest h)

-- a message that has a placement of 503 places it
pub placed_there : (p : Placement) (ps : List Placement) → p.number ≡ checksum_number → places_checksum (p ∷ ps) ≡ true
unfolding is_in
placed_there p ps e = rw e refl

-- ---- the checksum at its place

module _ (identifier w : ℕ) where
  abbrev pub Sum : ℕ
  Sum = checksum_of identifier (bytes_of w)

  sum_lt : Sum < 2 ^ checksum_bits
  sum_lt = lt_of_lt_of_le (mod-lt _ (lit< {m = 0} {n = 8} tt)) (lit≤ tt)

  -- it is read back, and it is the checksum of the frame that has it
  sum_back : field_of (placed w checksum_start checksum_bits Sum) checksum_start checksum_bits ≡ Sum
  sum_back = read_back w checksum_start checksum_bits Sum sum_lt

  sum_kept : checksum_of identifier (bytes_of (placed w checksum_start checksum_bits Sum)) ≡ Sum
  sum_kept = checksum_kept identifier w Sum sum_lt

  pub summed_lt : (ps : List Placement) → w < 2 ^ frame_bits → with_checksum identifier ps w < 2 ^ frame_bits
  unfolding with_checksum
  summed_lt ps hw = go (places_checksum ps)
    where
      go : (t : Bool) → cond t (placed w checksum_start checksum_bits Sum) w < 2 ^ frame_bits
      go true = placed_lt w checksum_start checksum_bits Sum sum_lt frame_bits (lit≤ tt) hw
      go false = hw

  -- a field that ends below it stays, and every field where the message does not place it
  pub summed_keeps : (ps : List Placement) (t c : ℕ) → (places_checksum ps ≡ true → (t + c ≤ checksum_start) ⊎ (frame_bits ≤ t)) → field_of (with_checksum identifier ps w) t c ≡ field_of w t c
  unfolding with_checksum
  summed_keeps ps t c h = go (places_checksum ps) refl
    where
      go : (b : Bool) → places_checksum ps ≡ b → field_of (cond b (placed w checksum_start checksum_bits Sum) w) t c ≡ field_of w t c
      go true e = beside w checksum_start checksum_bits Sum sum_lt t c (⊎_elim inr inl (h e))
      go false e = refl

-- where the message places the checksum, the frame has its own
pub summed_sum : (identifier w : ℕ) (ps : List Placement) → places_checksum ps ≡ true
    → field_of (with_checksum identifier ps w) checksum_start checksum_bits ≡ checksum_of identifier (bytes_of (with_checksum identifier ps w))
unfolding with_checksum
summed_sum identifier w ps e = rw e (sum_back identifier w ∙ sym (sum_kept identifier w))

-- so every count stays
pub summed_has : (identifier w : ℕ) (ps : List Placement) {qs : List Placement} {vs : List ℕ} → (places_checksum ps ≡ true → Clear qs) → Has w qs vs → Has (with_checksum identifier ps w) qs vs
summed_has identifier w ps h Has.none = Has.none
summed_has identifier w ps h (Has.more {p} {ps = qs} {v} {vs} e rest) =
    Has.more (λ n. summed_keeps identifier w ps p.start (bits_of_spec p.number) (λ b. inl (first (h b) n)) ∙ e n)
    (summed_has identifier w ps (λ b. others (h b)) rest)
  where
    first : Clear (p ∷ qs) → (p.number ≡ checksum_number → ⊥) → p.start + bits_of_spec p.number ≤ checksum_start
    first (Clear.more c cs) = c

    others : Clear (p ∷ qs) → Clear qs
    others (Clear.more c cs) = cs
