-- One step of a walk over a message's numbers and starts; and the check, made and spared. Assumes nothing.
use mathlib.Core.Path.{◌≡◌, refl, sym, ap, ◌∙◌, subst}
use mathlib.Core.Bool.{true, false}
use mathlib.Core.List.{List, ◌∷◌, map}
use Prim.Native.Nat.{ℕ, ◌+◌, ◌≤◌, ◌<◌}
use native.Mathlib.Numerals.{add-one}
use lib.Dec.{eqb}
use lib.ListN.{length, get_or, set}
use lib.Seq.{sets, length-sets}
use Rattle.bits.specs.Word.{Fits, field_of, bytes_of}
use Rattle.bits.specs.Checksum.{checksum_of}
use Rattle.books.specs.Book.{Placement}
use Rattle.books.specs.Lines.{is_in}
use Rattle.books.specs.Words.{side_by_side}
pub use Rattle.books.proofs.Sides.{from, placement_at, rest, rest_more, rest_none}
use Rattle.catalogue.specs.Find.{bits_of_spec}
use Rattle.framing.specs.Messages.{checksum_number, checksum_start, checksum_bits}
use Rattle.messages.specs.Signals.{AllFit, check_holds}

fit_first : {p : Placement} {ps : List Placement} → AllFit (p ∷ ps) → Fits p.start (bits_of_spec p.number)
fit_first (AllFit.more f fs) = f

fit_rest : {p : Placement} {ps : List Placement} → AllFit (p ∷ ps) → AllFit ps
fit_rest (AllFit.more f fs) = fs

-- the placement at i lies within the frame, and so do those after it
module _ (ns ss : List ℕ) (i : ℕ) (h : i < length ns) (e : length ss ≡ length ns) (f : AllFit (rest ns ss i)) where
  pub fits_at : Fits (get_or ss i 0) (bits_of_spec (get_or ns i 0))
  fits_at = fit_first (subst AllFit (rest_more ns ss i h e) f)

  pub fits_on : AllFit (rest ns ss (i + 1))
  fits_on = fit_rest (subst AllFit (rest_more ns ss i h e) f)

-- ---- entries written one after another

module _ {A : Type 0} (f : Placement → A) (lent : List A) (ns ss : List ℕ) where
  -- writing what is left gives the final list
  abbrev pub Writing : List A → ℕ → Type 0
  Writing l i = sets l i (map f (rest ns ss i)) ≡ sets lent 0 (map f (side_by_side ns ss))

  pub write_more : (l : List A) (i : ℕ) (v : A) → i < length ns → length ss ≡ length ns → v ≡ f (placement_at ns ss i) → Writing l i → Writing (set l i v) (i + 1)
  write_more l i v h e is w =
      ap (λ (x : A). sets (set l i x) (i + 1) (map f (rest ns ss (i + 1)))) is
      ∙ ap (λ (k : ℕ). sets (set l i (f (placement_at ns ss i))) k (map f (rest ns ss (i + 1)))) (add-one i)
      ∙ sym (ap (λ (ps : List Placement). sets l i (map f ps)) (rest_more ns ss i h e))
      ∙ w

  pub write_none : (l : List A) (i : ℕ) → length ns ≤ i → Writing l i → l ≡ sets lent 0 (map f (side_by_side ns ss))
  write_none l i h w = sym (ap (λ (ps : List Placement). sets l i (map f ps)) (rest_none ns ss i h)) ∙ w

  pub write_length : (l : List A) (i : ℕ) → Writing l i → length l ≡ length lent
  write_length l i w = sym (length-sets l i (map f (rest ns ss i))) ∙ ap length w ∙ length-sets lent 0 (map f (side_by_side ns ss))

-- ---- the check

pub check_made : (identifier word : ℕ) (ns : List ℕ) (t s : ℕ) → is_in checksum_number ns ≡ true → t ≡ field_of word checksum_start checksum_bits → s ≡ checksum_of identifier (bytes_of word) → eqb t s ≡ check_holds identifier word ns
unfolding check_holds
check_made identifier word ns t s e p q = rw (p, q, e) refl

pub check_spared : (identifier word : ℕ) (ns : List ℕ) → is_in checksum_number ns ≡ false → true ≡ check_holds identifier word ns
unfolding check_holds
check_spared identifier word ns e = rw e refl
