-- One value after another until one is refused is what `framing` calls judged and put. Assumes nothing.
use mathlib.Core.Path.{◌≡◌, refl, sym, ap, ◌∙◌}
use Rattle.std.specs.Prelude.{Result, Ok, Err}
use mathlib.Core.Bool.{Bool, true, false, cond}
use mathlib.Core.List.{List, [], ◌∷◌}
use Prim.Native.Nat.{ℕ, ◌+◌, ◌^◌, ◌≤◌, ◌<◌}
use native.Mathlib.Omega.{arith}
use lib.Dec.{eqb, leb}
use lib.ListN.{length, get_or, drop}
use borrow.Author.Tests.{eq-eqb, ne_eqb}
use Rattle.bits.specs.Word.{bytes_of}
use Rattle.bits.specs.Word as Bits
use Rattle.bits.specs.Checksum.{checksum_of}
use Rattle.books.specs.Book.{Placement, Message}
use Rattle.books.specs.Lines.{is_in}
use Rattle.books.specs.Words.{side_by_side}
use Rattle.books.proofs.Sides.{side_numbers}
use Rattle.catalogue.specs.Find.{bits_of_spec}
use Rattle.catalogue.specs.Class.{class_of_spec}
use Rattle.catalogue.specs.declared.Class.{Class}
use Rattle.catalogue.specs.declared.Class.TheVariants.{Value, Invalid, Absent, Error, Reserved, Outside}
use Rattle.catalogue.specs.declared.NoClass.{NoClass}
use Rattle.catalogue.specs.declared.NoClass.TheVariants as Refused
use Rattle.framing.specs.declared.PackRefusal.{PackRefusal}
use Rattle.framing.specs.declared.PackRefusal.TheVariants.{TooWide, ReservedOrOutside}
use Rattle.framing.specs.Messages.{checksum_number, checksum_start, checksum_bits}
use Rattle.framing.specs.Reading.{class_code}
use Rattle.framing.specs.Packing.{packable, judged_values}
use Rattle.framing.specs.Putting.{all_ones, put, with_checksum, put_frame}
use Rattle.messages.specs.Signals.{summed_word, message_from}
use Rattle.messages.specs.Put.{put_one_spec, put_all, Packable, pack_into}
use Rattle.messages.proofs.Steps.{from, placement_at, rest, rest_more, rest_none}

-- ---- the checksum put in

module _ (identifier word : ℕ) (ns : List ℕ) where
  pub summed_there : is_in checksum_number ns ≡ true → (r s : ℕ) → r ≡ Bits.placed word checksum_start checksum_bits s → s ≡ checksum_of identifier (bytes_of word) → r ≡ summed_word identifier word ns
  unfolding summed_word
  summed_there e r s p q = rw (e, ← q) p

  pub summed_nowhere : is_in checksum_number ns ≡ false → word ≡ summed_word identifier word ns
  unfolding summed_word
  summed_nowhere e = rw e refl

-- ---- one value

-- the code of its class says whether it is sent
pub fine_code : {k : ℕ} (c : Result Class NoClass) → k ≡ class_code c → k < 4 → packable c ≡ true
fine_code (Ok (Value t)) e h = refl
fine_code (Ok (Invalid r)) e h = refl
fine_code (Ok (Absent r)) e h = refl
fine_code (Ok (Error r)) e h = refl
fine_code (Ok (Reserved r)) e h = absurd (omega (arith, e, h))
fine_code (Ok (Outside r)) e h = absurd (omega (arith, e, h))
fine_code (Err Refused.NotInCatalogue) e h = absurd (omega (arith, e, h))
fine_code (Err Refused.TooWide) e h = absurd (omega (arith, e, h))

pub barred_code : {k : ℕ} (c : Result Class NoClass) → k ≡ class_code c → 4 ≤ k → packable c ≡ false
barred_code (Ok (Value t)) e h = absurd (omega (arith, e, h))
barred_code (Ok (Invalid r)) e h = absurd (omega (arith, e, h))
barred_code (Ok (Absent r)) e h = absurd (omega (arith, e, h))
barred_code (Ok (Error r)) e h = absurd (omega (arith, e, h))
barred_code (Ok (Reserved r)) e h = refl
barred_code (Ok (Outside r)) e h = refl
barred_code (Err Refused.NotInCatalogue) e h = refl
barred_code (Err Refused.TooWide) e h = refl

module _ (w : ℕ) (p : Placement) (v : ℕ) where
  pub put_skips : p.number ≡ checksum_number → Ok w ≡ put_one_spec w p v
  unfolding put_one_spec
  put_skips e = rw (eq-eqb p.number checksum_number e) refl

  pub put_wide : (p.number ≡ checksum_number → ⊥) → leb (2 ^ bits_of_spec p.number) v ≡ true → Err TooWide ≡ put_one_spec w p v
  unfolding put_one_spec
  put_wide n e = rw (ne_eqb p.number checksum_number n, e) refl

  -- past the first two tests
  passes : (skip wide fine barred : Result ℕ PackRefusal) → (p.number ≡ checksum_number → ⊥) → leb (2 ^ bits_of_spec p.number) v ≡ false
      → cond (eqb p.number checksum_number) skip (cond (leb (2 ^ bits_of_spec p.number) v) wide (cond (packable (class_of_spec p.number (record { 0 = v }))) fine barred))
      ≡ cond (packable (class_of_spec p.number (record { 0 = v }))) fine barred
  passes skip wide fine barred n e = rw (ne_eqb p.number checksum_number n, e) refl

  pub put_fine : (p.number ≡ checksum_number → ⊥) → leb (2 ^ bits_of_spec p.number) v ≡ false → packable (class_of_spec p.number (record { 0 = v })) ≡ true
      → Ok (Bits.placed w p.start (bits_of_spec p.number) v) ≡ put_one_spec w p v
  unfolding put_one_spec
  put_fine n e f = sym (passes (Ok w) (Err TooWide) (Ok (Bits.placed w p.start (bits_of_spec p.number) v)) (Err ReservedOrOutside) n e ∙ ap (λ (c : Bool). cond c (Ok (Bits.placed w p.start (bits_of_spec p.number) v)) (Err ReservedOrOutside)) f)

  pub put_barred : (p.number ≡ checksum_number → ⊥) → leb (2 ^ bits_of_spec p.number) v ≡ false → packable (class_of_spec p.number (record { 0 = v })) ≡ false → Err ReservedOrOutside ≡ put_one_spec w p v
  unfolding put_one_spec
  put_barred n e f = sym (passes (Ok w) (Err TooWide) (Ok (Bits.placed w p.start (bits_of_spec p.number) v)) (Err ReservedOrOutside) n e ∙ ap (λ (c : Bool). cond c (Ok (Bits.placed w p.start (bits_of_spec p.number) v)) (Err ReservedOrOutside)) f)

-- ---- one after another

pub refusal_stays : (why : PackRefusal) (ps : List Placement) (vs : List ℕ) → put_all (Err why) ps vs ≡ Err why
unfolding put_all
refusal_stays why [] vs = refl
refusal_stays why (p ∷ ps) [] = refl
refusal_stays why (p ∷ ps) (v ∷ vs) = refl

module _ (ns ss vs : List ℕ) (word i : ℕ) where
  pub put_more : Packable ns ss vs → i < length ns → put_all (Ok word) (rest ns ss i) (drop i vs) ≡ put_all (put_one_spec word (placement_at ns ss i) (get_or vs i 0)) (rest ns ss (i + 1)) (drop (i + 1) vs)
  unfolding put_all
  put_more k h =
      ap (λ (ps : List Placement). put_all (Ok word) ps (drop i vs)) (rest_more ns ss i h k.same)
      ∙ ap (λ (l : List ℕ). put_all (Ok word) (placement_at ns ss i ∷ rest ns ss (i + 1)) l) (from vs i (omega (arith, k.many)))

  pub put_none : length ns ≤ i → put_all (Ok word) (rest ns ss i) (drop i vs) ≡ Ok word
  unfolding put_all
  put_none h = ap (λ (ps : List Placement). put_all (Ok word) ps (drop i vs)) (rest_none ns ss i h)

-- ---- and what it comes to

abbrev judgement : Result ℕ PackRefusal → Result (Unit {0}) PackRefusal
judgement (Ok word) = Ok tt
judgement (Err why) = Err why

-- a step is judged by the same three tests
judged_step : (a b c : Bool) (w w' : ℕ) (ps : List Placement) (vs : List ℕ) (later : Result (Unit {0}) PackRefusal) → ((x : ℕ) → judgement (put_all (Ok x) ps vs) ≡ later)
    → judgement (put_all (cond a (Ok w) (cond b (Err TooWide) (cond c (Ok w') (Err ReservedOrOutside)))) ps vs) ≡ cond a later (cond b (Err TooWide) (cond c later (Err ReservedOrOutside)))
judged_step true b c w w' ps vs later h = h w
judged_step false true c w w' ps vs later h = ap judgement (refusal_stays TooWide ps vs)
judged_step false false true w w' ps vs later h = h w'
judged_step false false false w w' ps vs later h = ap judgement (refusal_stays ReservedOrOutside ps vs)

judged_all : (ps : List Placement) (vs : List ℕ) (w : ℕ) → judgement (put_all (Ok w) ps vs) ≡ judged_values ps vs
unfolding put_all put_one_spec judged_values
judged_all [] vs w = refl
judged_all (p ∷ ps) [] w = refl
judged_all (p ∷ ps) (v ∷ vs) w =
    judged_step (eqb p.number checksum_number) (leb (2 ^ bits_of_spec p.number) v) (packable (class_of_spec p.number (record { 0 = v }))) w
    (Bits.placed w p.start (bits_of_spec p.number) v) ps vs (judged_values ps vs) (judged_all ps vs)

never_word : {A : Type 0} {why : PackRefusal} (r : Result ℕ PackRefusal) (W : ℕ) → r ≡ Err why → r ≡ Ok W → A
never_word r W e f = let z : ◌≡◌ {A = ℕ} 0 1 = cc in absurd (omega arith)

word_step : (a b c : Bool) (w w' W : ℕ) (ps : List Placement) (vs : List ℕ) → ((x : ℕ) → put_all (Ok x) ps vs ≡ Ok W → W ≡ put x ps vs)
    → put_all (cond a (Ok w) (cond b (Err TooWide) (cond c (Ok w') (Err ReservedOrOutside)))) ps vs ≡ Ok W → W ≡ cond a (put w ps vs) (put w' ps vs)
word_step true b c w w' W ps vs h e = h w e
word_step false true c w w' W ps vs h e = never_word (put_all (Err TooWide) ps vs) W (refusal_stays TooWide ps vs) e
word_step false false true w w' W ps vs h e = h w' e
word_step false false false w w' W ps vs h e = never_word (put_all (Err ReservedOrOutside) ps vs) W (refusal_stays ReservedOrOutside ps vs) e

word_all : (ps : List Placement) (vs : List ℕ) (W w : ℕ) → put_all (Ok w) ps vs ≡ Ok W → W ≡ put w ps vs
unfolding put_all put_one_spec put
word_all [] vs W w e = let h : w ≡ W = (cc) in sym h
word_all (p ∷ ps) [] W w e = let h : w ≡ W = (cc) in sym h
word_all (p ∷ ps) (v ∷ vs) W w e =
    word_step (eqb p.number checksum_number) (leb (2 ^ bits_of_spec p.number) v) (packable (class_of_spec p.number (record { 0 = v }))) w
    (Bits.placed w p.start (bits_of_spec p.number) v) W ps vs (word_all ps vs W) e

-- ---- the frame

module _ (identifier : ℕ) (ns ss vs lent : List ℕ) where
  abbrev M : Message
  M = message_from identifier ns ss

  pub refused : (why : PackRefusal) → put_all (Ok all_ones) (side_by_side ns ss) vs ≡ Err why → ◌≡◌ {A = Result (Unit {0}) PackRefusal × List ℕ} (Err why, lent) (pack_into M vs lent)
  refused why e = let h : judged_values (side_by_side ns ss) vs ≡ Err why = sym (judged_all (side_by_side ns ss) vs all_ones) ∙ ap judgement e in rw h refl

  pub was_packed : length ss ≡ length ns → (word : ℕ) → put_all (Ok all_ones) (side_by_side ns ss) vs ≡ Ok word → (frame : List ℕ) → frame ≡ bytes_of (summed_word identifier word ns)
      → ◌≡◌ {A = Result (Unit {0}) PackRefusal × List ℕ} (Ok tt, frame) (pack_into M vs lent)
  unfolding put_frame with_checksum summed_word
  was_packed same word e frame f =
      let h : judged_values (side_by_side ns ss) vs ≡ Ok tt = sym (judged_all (side_by_side ns ss) vs all_ones) ∙ ap judgement e in
      let w : word ≡ put all_ones (side_by_side ns ss) vs = word_all (side_by_side ns ss) vs word all_ones e in
      rw h
      (ap (λ (x : List ℕ). (Ok tt, x))
      (f
      ∙ ap (λ (x : ℕ). bytes_of (cond (is_in checksum_number ns) (Bits.placed x checksum_start checksum_bits (checksum_of identifier (bytes_of x))) x)) w
      ∙ ap (λ (l : List ℕ). bytes_of (cond (is_in checksum_number l) (Bits.placed (put all_ones (side_by_side ns ss) vs) checksum_start checksum_bits (checksum_of identifier (bytes_of (put all_ones (side_by_side ns ss) vs)))) (put all_ones (side_by_side ns ss) vs)))
      (sym (side_numbers ns ss same))))
