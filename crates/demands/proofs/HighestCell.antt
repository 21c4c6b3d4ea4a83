-- 705 and 706, the numbers of the highest cell, are read like those of the lowest, and count from 1 (document 02, P2). Assumes nothing.
use mathlib.Core.Path.{◌≡◌, refl, sym, ap, ◌∙◌}
use mathlib.Core.Bool.{Bool, true, false, cond}
use mathlib.Core.List.{List, [], ◌∷◌}
use mathlib.Core.Option.{Option, some}
use Prim.Native.Nat.{ℕ, zero, suc, ◌+◌, ◌*◌, ◌^◌, ◌≤◌, ◌<◌}
use native.Mathlib.Nat.{le_of_suc-le-suc, not-suc-le-zero}
use native.Mathlib.Omega.{arith}
use lib.Dec.{eqb, leb}
use lib.IntN.{pos}
use lib.ListN.{length, get_or, take, drop}
use borrow.Author.Tests.{eq-eqb, le-leb, lt-leb}
use Rattle.rows.specs.declared.Row.{Row}
use Rattle.rows.specs.Rows.{rows, row, plus, unmarked}
use Rattle.bits.specs.Frame.{frame_bytes}
use Rattle.books.specs.Book.{Placement, Message}
use Rattle.catalogue.specs.declared.Raw.{Raw}
use Rattle.std.specs.Prelude.{Ok}
use Rattle.catalogue.specs.declared.Class.TheVariants.{Value, Outside}
use Rattle.catalogue.specs.Find.{row_of, bits_of_spec}
use Rattle.catalogue.specs.Class.{between, class_for, class_of_spec}
use Rattle.std.specs.Prelude.{Result, Ok, Err}
use Rattle.framing.specs.declared.PackRefusal.{PackRefusal}
use Rattle.framing.specs.declared.PackRefusal.TheVariants.{TooWide, ReservedOrOutside}
use Rattle.framing.specs.Messages.{checksum_number}
use Rattle.framing.specs.Packing.{packable, judged_values, packed_frame, packed_or, pack_by_message, packing, packing_number}
use Rattle.framing.specs.Demand.{placement_at}
use Rattle.doubles.specs.Doubles.{in_units_spec}
use Rattle.doubles.proofs.Values.{value_whole}
use Rattle.dash.specs.Answer.{dash_for, dash_of}
use Rattle.demands.specs.HighestCell.{raw_count, ReadLike, ComesTo, CountsFromOne}

-- ---- like their twins

pub csc_like_lowest : ReadLike 705 703
unfolding class_of_spec row_of rows
csc_like_lowest raw = refl

pub cell_like_lowest : ReadLike 706 702
unfolding class_of_spec row_of rows
cell_like_lowest raw = refl

-- ---- behind values that are not refused the next ones decide

one_on : (a b c : Bool) (x y : Result (Unit {0}) PackRefusal) → cond a x (cond b (Err TooWide) (cond c x (Err ReservedOrOutside))) ≡ Ok tt
    → (x ≡ Ok tt) × (cond a y (cond b (Err TooWide) (cond c y (Err ReservedOrOutside))) ≡ y)
one_on true b c x y e = (e, refl)
one_on false true c x y e = absurd (omega (arith, ap packing_number e))
one_on false false true x y e = (e, refl)
one_on false false false x y e = absurd (omega (arith, ap packing_number e))

no_values : (ps : List Placement) → judged_values ps [] ≡ Ok tt
unfolding judged_values
no_values [] = refl
no_values (p ∷ ps) = refl

goes_on : (i : ℕ) (ps : List Placement) (vs : List ℕ) → judged_values (take i ps) (take i vs) ≡ Ok tt → judged_values ps vs ≡ judged_values (drop i ps) (drop i vs)
unfolding judged_values
goes_on zero ps vs e = refl
goes_on (suc i) [] vs e = refl
goes_on (suc i) (p ∷ ps) [] e = sym (no_values (drop i ps))
goes_on (suc i) (p ∷ ps) (v ∷ vs) e =
    let on = one_on (eqb p.number checksum_number) (leb (2 ^ bits_of_spec p.number) v) (packable (class_of_spec p.number (raw_count v))) _ (judged_values ps vs) e in
    on.1 ∙ goes_on i ps vs on.0

-- from a position on: the value there, and those behind it
from_there : (i : ℕ) (ps : List Placement) (vs : List ℕ) → length vs ≡ length ps → i < length vs
    → judged_values (drop i ps) (drop i vs) ≡ judged_values (get_or ps i (record { number = 0; start = 0 }) ∷ drop (suc i) ps) (get_or vs i 0 ∷ drop (suc i) vs)
from_there i [] [] n h = absurd (not-suc-le-zero h)
from_there i [] (v ∷ vs) n h = absurd (omega arith)
from_there i (p ∷ ps) [] n h = absurd (omega arith)
from_there zero (p ∷ ps) (v ∷ vs) n h = refl
from_there (suc i) (p ∷ ps) (v ∷ vs) n h = from_there i ps vs (omega arith) (le_of_suc-le-suc h)

-- ---- from 1 on

-- the row of both
abbrev from_one : ℕ → Row
from_one number = row number 8 1000 (plus 0) 1 255 unmarked unmarked unmarked

module _ (number : ℕ) (here : row_of number ≡ some (from_one number)) (other : eqb number checksum_number ≡ false) where
  by_row : (raw : Raw) → class_of_spec number raw ≡ class_for (some (from_one number)) raw
  unfolding class_of_spec
  by_row raw = ap (λ (o : Option Row). class_for o raw) here

  outside : class_of_spec number (raw_count 0) ≡ Ok (Outside (raw_count 0))
  unfolding between
  outside = by_row (raw_count 0) ∙ refl

  value : (n : ℕ) → 1 ≤ n → n ≤ 255 → class_of_spec number (raw_count n) ≡ Ok (Value (record { 0 = pos (n * 1000) }))
  unfolding between
  value n low high =
      let no_offset : n * 1000 + 0 ≡ n * 1000 = omega arith in
      by_row (raw_count n)
      ∙ simp (lt-leb 256 n (omega arith), lt-leb n 0 (omega arith), le-leb 1 n low, le-leb n 255 high)
      (ap (λ (k : ℕ). Ok (Value (record { 0 = pos k }))) no_offset)

  -- a value of the signal is judged by its bits and its class
  judged : (p : Placement) (ps : List Placement) (v : ℕ) (vs : List ℕ) → p.number ≡ number
      → judged_values (p ∷ ps) (v ∷ vs) ≡ cond (leb 256 v) (Err TooWide) (cond (packable (class_of_spec number (raw_count v))) (judged_values ps vs) (Err ReservedOrOutside))
  unfolding judged_values bits_of_spec
  judged p ps v vs e = simp (e, other, here)

  module _ (words : List ℕ) (identifier : ℕ) (vs lent : List ℕ) (m : Message) (i : ℕ) (c : ComesTo number words identifier vs lent m i) where
    by_values : packing words identifier vs lent ≡ (judged_values m.placements vs, packed_or (judged_values m.placements vs) (packed_frame m vs) lent)
    unfolding packing pack_by_message
    by_values = rw (c.taken, c.found, eq-eqb (length vs) (length m.placements) c.many, eq-eqb (length lent) frame_bytes c.eight) refl

    by_this : judged_values m.placements vs
        ≡ cond (leb 256 (get_or vs i 0)) (Err TooWide) (cond (packable (class_of_spec number (raw_count (get_or vs i 0)))) (judged_values (drop (suc i) m.placements) (drop (suc i) vs)) (Err ReservedOrOutside))
    by_this =
        goes_on i m.placements vs c.before
        ∙ from_there i m.placements vs c.many c.within
        ∙ judged (placement_at m i) (drop (suc i) m.placements) (get_or vs i 0) (drop (suc i) vs) c.signal

    zero_barred : get_or vs i 0 ≡ 0 → packing words identifier vs lent ≡ (Err ReservedOrOutside, lent)
    zero_barred z = by_values ∙ ap (λ (r : Result (Unit {0}) PackRefusal). (r, packed_or r (packed_frame m vs) lent)) (by_this ∙ simp (z, outside))

    others_sent : 1 ≤ get_or vs i 0 → get_or vs i 0 ≤ 255 → (packing words identifier vs lent).0 ≡ judged_values (drop (suc i) m.placements) (drop (suc i) vs)
    others_sent low high =
        ap (λ (x : Result (Unit {0}) PackRefusal × List ℕ). x.0) by_values
        ∙ by_this
        ∙ simp (lt-leb 256 (get_or vs i 0) (omega arith), value (get_or vs i 0) low high)

  counts_from_one : CountsFromOne number
  unfolding dash_of
  counts_from_one =
      record {
        zero_outside = outside;
        zero_shown = ap dash_for outside;
        reads = value;
        shows = λ n low high. (in_units_spec (record { 0 = pos (n * 1000) }), (ap dash_for (value n low high), value_whole number (raw_count n) _ (value n low high) (pos n) refl));
        zero_refused = zero_barred;
        sent = others_sent;
      }

pub csc_from_one : CountsFromOne 705
unfolding row_of rows
csc_from_one = counts_from_one 705 refl refl

pub cell_from_one : CountsFromOne 706
unfolding row_of rows
cell_from_one = counts_from_one 706 refl refl
