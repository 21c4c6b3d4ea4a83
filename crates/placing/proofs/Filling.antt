-- What the signals of a message fill tells whether one more meets them, and grows by it. Assumes nothing.
use mathlib.Core.Path.{◌≡◌, sym, ap, ◌∙◌}
use mathlib.Core.Bool.{Bool, ◌||◌}
use mathlib.Core.List.{List, [], ◌∷◌, ◌++◌}
use Prim.Native.Nat.{ℕ, ◌*◌, ◌%◌, ◌^◌, ◌<◌}
use native.Mathlib.Omega.{arith}
use lib.Bits.{bit_or}
use lib.Dec.{eqb}
use Rattle.catalogue.specs.Find.{bits_of_spec}
use Rattle.books.specs.Book.{Placement, numbers}
use Rattle.books.specs.Lines.{meets_earlier}
use Rattle.books.specs.Belonging.{in_run, bit_belongs, covers, none}
use Rattle.books.proofs.Ends.{map-append}
use Rattle.books.proofs.Meeting.{have_more}
use Rattle.masks.specs.Bit.{width, bit, meeting}
use Rattle.masks.proofs.Bits.{bit_zero, bit_or_law, bit_with}
use Rattle.masks.proofs.Told.{same_bits}
use Rattle.placing.specs.declared.Filled.{Filled}
use Rattle.placing.specs.Placing.{FrameRoom}
use Rattle.placing.specs.Filling.{marked, Fills, FilledMore}
use Rattle.placing.proofs.Covering.{covers_none, covers_more, same_meeting}
use Rattle.placing.proofs.Runs.{run_of, run_bits}
use Rattle.placing.proofs.Marks.{marked_none, marked_more}

pub fills_none : (f : Filled) → f.bits ≡ 0 → f.marks ≡ 0 → Fills [] f
fills_none f b m = record {
  each_wide = none;
  bits = λ k. ap (λ (n : ℕ). bit n k) b ∙ bit_zero k ∙ sym (covers_none k);
  marks = λ j. ap (λ (n : ℕ). bit n j) m ∙ bit_zero j ∙ sym (marked_none j);
}

-- and the signals fill nothing else
pub fills_once : (ps : List Placement) (f g : Filled) → Fills ps f → Fills ps g → f ≡ g
fills_once ps f g h k =
    let bits = same_bits f.bits g.bits (λ n. h.bits n ∙ sym (k.bits n)) in
    let marks = same_bits f.marks g.marks (λ j. h.marks j ∙ sym (k.marks j)) in
    λ i. record { bits = bits i; marks = marks i }

-- there is a mask with the bits of a run more, and one with a mark more
pub more_there : (f : Filled) (number start bits : ℕ) → FrameRoom start bits → (g : Filled) × FilledMore f number start bits g
more_there f number start bits r = (
  record { bits = bit_or f.bits (run_of start bits); marks = bit_or f.marks (1 * 2 ^ (number % width) % 2 ^ 64) },
  record {
    bits_more = λ k. bit_or_law f.bits _ k ∙ ap (λ (t : Bool). bit f.bits k || t) (run_bits start bits r.to k);
    marks_more = λ j. bit_with f.marks (number % width) j (omega arith);
  },
)

-- one signal more, which has b bits
module _ (ps : List Placement) (p : Placement) (f : Filled) (h : Fills ps f) (some : 0 < bits_of_spec p.number) (b : ℕ) (e : b ≡ bits_of_spec p.number) where
  own_bits : (k : ℕ) → in_run p.start b k ≡ bit_belongs p k
  own_bits k = ap (λ (n : ℕ). in_run p.start n k) e

  pub meets_same : (run : ℕ) → ((k : ℕ) → bit run k ≡ in_run p.start b k) → meeting f.bits run ≡ meets_earlier ps p
  meets_same run r = same_meeting ps p f.bits run h.bits (λ k. r k ∙ own_bits k) h.each_wide some

  pub fills_more : (g : Filled) → FilledMore f p.number p.start b g → Fills (ps ++ (p ∷ [])) g
  fills_more g m = record {
    each_wide = have_more p h.each_wide some;
    bits = λ k. m.bits_more k ∙ ap (λ (t : Bool). t || in_run p.start b k) (h.bits k) ∙
        ap (λ (t : Bool). covers ps k || t) (own_bits k) ∙ sym (covers_more ps p k);
    marks = λ j. m.marks_more j ∙ ap (λ (t : Bool). t || eqb j (p.number % width)) (h.marks j) ∙ sym (marked_more (numbers ps) p.number j) ∙
        ap (λ (ns : List ℕ). marked ns j) (sym (map-append (λ (q : Placement). q.number) ps (p ∷ [])));
  }
